-- A force, and then the journal is down.
--     shut-refused      a force that is refused is a shut that is refused
--     shut-done         after a force that is done the journal goes down
use Rattle.std.proofs.Common.{◌≡◌, ℕ, Ok, Err, refl, inl, inr}
use Rattle.disk.specs.Sectors.{DiskState}
use Rattle.disk.specs.Faults.{Answer}
use Rattle.refusal.specs.declared.Refusal.{Refusal}
use Rattle.journal.specs.Calls.{ForceLeft, ForceAnswers, ShutLeft, ShutAnswers}
use Rattle.journal.specs.declared.inner.Inner.{Inner}
use Rattle.journal.specs.declared.inner.Standing.{Standing}
use Rattle.journal.specs.declared.inner.State.TheVariants.{Down}

module _ (v : Standing) (i : Inner) (d : DiskState) where
  left-refused : (a : Answer) (x : Refusal) (j : Inner) → ForceLeft v i a (Err x) j → ShutLeft a (Err x) j
  left-refused (Ok _) x j (w, up, numbers, answers, leaves, long) = cc
  left-refused (Err y) x j (down, answers) = (down, cc)

  pub shut-refused : (x : Refusal) (j : Inner) (e : DiskState) → ForceAnswers v i d (Err x) j e → ShutAnswers v i d (Err x) j e
  shut-refused x j e (inl (spent, answers, rest)) = inl (spent, (cc), rest)
  shut-refused x j e (inr (goes, up)) = inr (goes, record { answer = up.answer; wrote = up.wrote; left = left-refused up.answer x j up.left })

  left-done : (a : Answer) (n : ℕ) (j k : Inner) → k.state ≡ Down → ForceLeft v i a (Ok n) j → ShutLeft a (Ok tt) k
  left-done (Ok _) n j k down h = (down, refl)
  left-done (Err y) n j k down (was, answers) = cc

  pub shut-done : (n : ℕ) (j k : Inner) (e : DiskState) → k.state ≡ Down → ForceAnswers v i d (Ok n) j e → ShutAnswers v i d (Ok tt) k e
  shut-done n j k e down (inl (spent, answers, rest)) = cc
  shut-done n j k e down (inr (goes, up)) = inr (goes, record { answer = up.answer; wrote = up.wrote; left = left-done up.answer n j k down up.left })
