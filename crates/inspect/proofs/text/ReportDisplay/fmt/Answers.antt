use Rattle.std.proofs.Common.{append_assoc, rules, Some}
use Rattle.hex_digits.specs.Digits.{byte_digits, word_digits}
use Rattle.inspect.proofs.Fields.{field_is}
use Rattle.inspect.proofs.text.ReportDisplay.fmt.Goals as goal

pub returns-clause-writes : goal.returns-clause-writes
returns-clause-writes g c =
    let report = c.args.self.now in
    let ccitt = field_is report.ccitt c.map.result c.map.ensures.cases (λ d. Some (word_digits d.0)) (λ s. word_digits s.computed) (λ x d p. search rules) in
    let stored_ccitt = field_is report.ccitt c.map-2.result c.map-2.ensures.cases (λ d. Some (word_digits d.0)) (λ s. word_digits s.stored) (λ x d p. search rules) in
    let crc8 = field_is report.crc8 c.map-3.result c.map-3.ensures.cases (λ d. Some (byte_digits d.0)) (λ s. byte_digits s.computed) (λ x d p. search rules) in
    let stored_crc8 = field_is report.crc8 c.map-4.result c.map-4.ensures.cases (λ d. Some (byte_digits d.0)) (λ s. byte_digits s.stored) (λ x d p. search rules) in
    let entry = field_is report.entry c.map-5.result c.map-5.ensures.cases (λ d. Some (word_digits d.0)) word_digits (λ x d p. search rules) in
    λ plain ok. simp append_assoc at ((rw (ccitt, stored_ccitt, crc8, stored_crc8, entry) at c.write.ensures.writes) plain ok)
