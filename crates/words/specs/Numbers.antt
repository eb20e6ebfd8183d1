-- The numbers of answers, refusals and jobs.
use Rattle.std.specs.Prelude.{ℕ}
use Rattle.words.specs.declared.Answer.{Answer}
use Rattle.words.specs.declared.Answer.TheVariants as A
use Rattle.words.specs.declared.Job.{Job}
use Rattle.words.specs.declared.Job.TheVariants as J
use Rattle.words.specs.declared.Refusal.{Refusal}
use Rattle.words.specs.declared.Refusal.TheVariants as R

-- the byte that answers a host: MSPBoot's OK, HEADER_ERROR, CHECKSUM_ERROR, PACKETZERO_ERROR, PACKETSIZE_ERROR, INVALID_PARAMS,
-- INCORRECT_COMMAND and MSPBOOT_VERSION; its UNKNOWN_ERROR, 0x55, is never sent
abbrev pub answer_byte : Answer → ℕ
answer_byte A.Done = 0x00
answer_byte A.HeaderError = 0x51
answer_byte A.ChecksumError = 0x52
answer_byte A.PacketZeroError = 0x53
answer_byte A.PacketSizeError = 0x54
answer_byte A.InvalidParams = 0xC5
answer_byte A.IncorrectCommand = 0xC6
answer_byte A.Version = 0xA0

-- what was at work when the supply went
abbrev pub job_number : Job → ℕ
job_number J.Copy = 1
job_number J.MarkErase = 2
job_number J.DownloadErase = 3
job_number J.HostCommand = 4

-- why a call was refused
abbrev pub refusal_number : Refusal → ℕ
refusal_number R.BadLayout = 1
refusal_number (R.SupplyLost place job) = 2
refusal_number R.PastEnd = 3
refusal_number R.WrongSize = 4
refusal_number R.MarkNotErased = 5
refusal_number R.NotListening = 6
refusal_number R.MalformedInput = 7
