-- What the exported functions answer, as one number each.
use Rattle.std.specs.Prelude.{ℕ}
use Rattle.rules.specs.Answer.{refusal_number}
use Rattle.rules.specs.Words.{Refusal, Result, Ok, Err}
use Rattle.sheet.specs.declared.Layout.{Layout}
use Rattle.runner.specs.declared.Short.{Short}

-- the number of the refusal, 0 for a sheet that is accepted
abbrev pub refusal_in : Result Layout Refusal → ℕ
refusal_in (Ok at) = 0
refusal_in (Err why) = refusal_number why

-- the length of the text, 0 where the buffer is too short; no text is that short (proofs/Told.antt)
abbrev pub length_in : Result ℕ Short → ℕ
length_in (Ok length) = length
length_in (Err short) = 0
