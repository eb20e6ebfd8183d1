-- How a memory is divided: which places and addresses each area has.
use Rattle.std.specs.Prelude.{ℕ, ◌+◌, ◌-◌, ◌*◌, Bool, ◌&&◌, List, take, drop, Ok, Err, Result, nat_le, slice_index_or}
use Rattle.words.specs.declared.Refusal.{Refusal}
use Rattle.layout.specs.declared.divided.Layout.{Layout}

-- k segments of an application, 1 to 48, and b of the boot area, 1 to 8
abbrev pub exists : (k b : ℕ) → Bool
exists k b = (nat_le 1 k && nat_le k 48) && (nat_le 1 b && nat_le b 8)

-- the two numbers that a layout was made with, if it was made
abbrev pub numbers : Result Layout Refusal → Result (ℕ × ℕ) Refusal
numbers (Ok l) = Ok (l.k, l.b)
numbers (Err r) = Err r

-- one status segment, k download, k application and b boot segments, from place 0 up
abbrev pub size : Layout → ℕ
size l = 512 * (1 + 2 * l.k + l.b)

-- how many bytes the download area has, and so the application area
abbrev pub application_size : Layout → ℕ
application_size l = 512 * l.k

-- the first place of the download area
abbrev pub download_place : ℕ
download_place = 512

-- the first place of the application area
abbrev pub application_place : Layout → ℕ
application_place l = 512 * (1 + l.k)

-- the first place of the boot area
abbrev pub boot_place : Layout → ℕ
boot_place l = 512 * (1 + 2 * l.k)

-- the last byte has address 0xFFFF
abbrev pub address : Layout → ℕ → ℕ
address l place = place + 0x10000 - size l

-- so many bytes from a place up
abbrev pub part : (place count : ℕ) → List ℕ → List ℕ
part place count bytes = take count (drop place bytes)

-- the mark byte
abbrev pub mark : List ℕ → ℕ
mark bytes = slice_index_or bytes 0 0xFF

-- the download area, where an image comes in
abbrev pub download : Layout → List ℕ → List ℕ
download l = part download_place (application_size l)

-- the application area, from which a controller runs
abbrev pub application : Layout → List ℕ → List ℕ
application l = part (application_place l) (application_size l)

-- the boot area, which is never changed
abbrev pub boot : Layout → List ℕ → List ℕ
boot l = part (boot_place l) (512 * l.b)
