-- What an image check is: three functions, and the lists of bytes that they accept.
use Rattle.std.specs.Prelude.{ℕ, Bool, List, fold}

-- a starting state, a step for each byte, and a yes or no of a state
pub record Check (State : Type 0) : Type 0 where
  pub start : State
  pub step : State → ℕ → State
  pub accepts : State → Bool

-- a check accepts a list of bytes when the state reached by stepping through it says yes
abbrev pub accepted : {State : Type 0} → Check State → List ℕ → Bool
accepted check bytes = check.accepts (fold check.step check.start bytes)
