-- An image that begins like neither a head nor an end is neither.
use Rattle.std.proofs.Common.{ℕ, List}
use Rattle.journal.specs.Calls.{Loggable}
use Rattle.thirds.proofs.Decoded.{decoded-calm}
use Rattle.thirds.specs.Words.{Calm, word_of}

pub loggable-calm : (P : ℕ) (bytes : List ℕ) → Loggable bytes → Calm (word_of P bytes)
loggable-calm P bytes k = decoded-calm P bytes (simp k.0) (simp k.1)
