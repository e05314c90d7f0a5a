-- The text of a sheet in a sector.
--     PageOf         the sector of a text: its bytes and then zeros, 512 in all; or 3 for a text of more than 512
--     text_length    how many bytes stand before the first zero
use Rattle.std.specs.Prelude.{◌≡◌, ℕ, ◌-◌, ◌<◌, ◌≤◌, ◌==◌, List, ◌++◌, length, replicate, Ok, Err, Result}
use Rattle.std.specs.List.{position_or_len}
use Rattle.refusal.specs.declared.Refusal.{Refusal}
use Rattle.refusal.specs.declared.Refusal.TheVariants.{TooLong}

abbrev pub PageOf : List ℕ → Result (List ℕ) Refusal → Type 0
PageOf text (Ok page) = (length text ≤ 512) × (page ≡ text ++ replicate (512 - length text) 0)
PageOf text (Err x) = (512 < length text) × (x ≡ TooLong)

abbrev pub text_length : List ℕ → ℕ
text_length bytes = position_or_len (λ b. b == 0) bytes
