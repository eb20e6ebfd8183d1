use Rattle.std.proofs.Common.{◌≡◌, ◌+◌, ◌^◌, ◌<◌, ◌≤◌, ◌++◌, is_ok, if◌then◌else◌, length, decimal, ap, ◌∙◌, arith, rules}
use Rattle.line.specs.One.{line_bytes}
use Rattle.line.proofs.Digits.{twenty_digits, room_for_all, whole_line, when_ok}
use Rattle.line.proofs.append.Goals as goal

pub append_decimal-requires : goal.append_decimal-requires
append_decimal-requires c = room_for_all _ _ c.new-line.ensures (search rules)

-- what is appended is the line
abbrev is_line : goal.After-extend_from_slice → Type 0
is_line c = c.as_slice.result.now ≡ line_bytes c.args.number c.args.outcome

line_is : (c : goal.After-extend_from_slice) → is_line c
line_is c =
    let n = c.args.number in
    let fits : n < 2 ^ 64 = search rules in
    let before = c.append_decimal.ensures ∙ ap (λ l. l ++ decimal n) c.new-line.ensures in
    let room : length c.append_decimal.new.line.items + 6 ≤ 26 = omega (arith, twenty_digits n fits, ap length before) in
    let rest = when_ok c.try_extend_from_slice.result c.try_extend_from_slice.ensures.ok (c.try_extend_from_slice.ensures.variant.1 room) in
    c.as_slice.ensures.value
    ∙ whole_line c.args.outcome n c.letter.result c.value-value.result c.digit.result c.digit-2.result
    c.new-line.result.items c.append_decimal.new.line.items c.try_extend_from_slice.new.self.items
    c.letter.ensures c.value-value.ensures c.value-value.type_inv c.digit.ensures c.digit-2.ensures c.new-line.ensures c.append_decimal.ensures rest

pub returns-clause-room : goal.returns-clause-room
returns-clause-room c h = c.extend_from_slice.ensures.succeeds (omega (arith, ap length (line_is c), h))

pub returns-clause-appended : goal.returns-clause-appended
returns-clause-appended c =
    c.extend_from_slice.ensures.items ∙ ap (λ l. if is_ok c.extend_from_slice.result then c.args.bytes.now.items ++ l else c.args.bytes.now.items) (line_is c)
