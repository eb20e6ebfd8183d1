use Rattle.line.proofs.+append_decimal.Given as goal

abbrev pub decreases-append-decimal : goal.decreases-append-decimal
decreases-append-decimal l = l.number
