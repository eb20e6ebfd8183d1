use Rattle.std.proofs.Common.{◌+◌, ◌/◌, ◌%◌, ◌^◌, ◌<◌, [], ◌∷◌, ◌++◌, length, decimal, ap, ◌∙◌, length-append, arith, rules, lit<}
use Rattle.line.proofs.Digits.{one_digit, more_digits, room_for_one, room_for_more}
use Rattle.line.proofs.+append_decimal.Goals as goal
use Rattle.line.proofs.+append_decimal.Goals.{then-number-ge10, else-number-ge10}

pub append_decimal-requires : goal.append_decimal-requires
append_decimal-requires t c =
    let fits : c.args.number < 2 ^ 64 = search rules in
    omega (arith, room_for_more c.args.number (length c.args.line.now.items) 26 c.if-number-ge10.true fits c.requires)

pub push-requires : goal.push-requires
push-requires t c =
    let n = c.args.number in
    let fits : n < 2 ^ 64 = search rules in (
      lit< tt,
      elim c.if-number-ge10.branch [
        | then-number-ge10 w ↦
            let more = room_for_more n (length c.args.line.now.items) 26 w.if-number-ge10.true fits c.requires in
            omega (arith, more, ap (λ v. length v.items) w.line-is ∙ ap length w.append_decimal.ensures ∙ length-append c.args.line.now.items (decimal (n / 10)))
        | else-number-ge10 w ↦ omega (arith, room_for_one n (length c.args.line.now.items) 26 fits c.requires, ap (λ v. length v.items) w.line-is)
      ],
    )

pub returns : goal.returns
returns t c =
    let n = c.args.number in
    let fits : n < 2 ^ 64 = search rules in
    elim c.if-number-ge10.branch [
      | then-number-ge10 w ↦
          c.push.ensures.items ∙ more_digits n c.args.line.now.items c.if-number-ge10.line.items w.if-number-ge10.true fits (ap (λ v. v.items) w.line-is ∙ w.append_decimal.ensures)
      | else-number-ge10 w ↦ c.push.ensures.items ∙ (ap (λ v. v.items ++ (48 + n % 10) ∷ []) w.line-is ∙ one_digit n c.args.line.now.items w.if-number-ge10.false)
    ]
