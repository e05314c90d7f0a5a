-- Each kind of step adds one event to a run.
--     moved-change, moved-force, moved-shut, moved-recover, moved-data, moved-forget     by the contract of the call
--     moved                                                                               any of them
--     moved-spoil                                                                         by the contract of the disk
use Rattle.std.proofs.Common.{◌≡◌, ℕ, List, length, take, Ok, Err, Result, refl, sym, ap, subst}
use Rattle.std.proofs.lemmas.List.{take-map}
use Rattle.disk.specs.Faults.{Answer, refusal_of}
use Rattle.disk.specs.Rules.{Spoils}
use Rattle.disk.specs.Sectors.{DiskState}
use Rattle.disk.specs.declared.faults.Fault.{Fault}
use Rattle.journal.specs.Books.{changed, forced, shut, recovered, data-written, spoiled, forgot}
use Rattle.journal.specs.Calls.{ChangeDoes, ForceDoes, ShutDoes, RecoverDoes, DataDoes}
use Rattle.journal.specs.Runs.{now_images, given, changes, forces, shuts, recovers, writes-data, spoils, forgets}
use Rattle.journal.specs.declared.inner.Inner.{Inner}
use Rattle.journal.specs.declared.inner.State.TheVariants.{Down}
use Rattle.refusal.specs.declared.Refusal.{Refusal}
use Rattle.replay.specs.Moves.{outcome_of, group_of, spoil_of, all_images, StepDoes, TurnDoes, Moves, Suffers}
use Rattle.replay.specs.declared.losses.Turn.{Turn}
use Rattle.replay.specs.declared.losses.Turn.TheVariants as turn
use Rattle.replay.specs.declared.steps.Outcome.{Outcome}
use Rattle.replay.specs.declared.steps.Outcome.TheVariants.{Done, Group, Images, Refused}
use Rattle.replay.specs.declared.steps.Step.{Step}
use Rattle.replay.specs.declared.steps.Step.TheVariants.{Change, Force, Shut, Recover, WriteData, Forget}

module _ (i j : Inner) (d e : DiskState) where
  pub moved-change : (page : ℕ) (bytes : List ℕ) (r : Result (Unit {0}) Refusal) (o : Outcome) → ChangeDoes page bytes i d r j e → o ≡ outcome_of r → Moves (Change page bytes) o i d j e
  moved-change page bytes r o f q T images h run = (changed page bytes r, (refl, refl, q), changes i j d e page bytes r run f)

  pub moved-force : (r : Result ℕ Refusal) (o : Outcome) → ForceDoes i d r j e → o ≡ group_of r → Moves Force o i d j e
  moved-force r o f q T images h run = (forced r, q, forces i j d e r run f)

  pub moved-shut : (r : Result (Unit {0}) Refusal) (o : Outcome) → ShutDoes i d r j e → o ≡ outcome_of r → Moves Shut o i d j e
  moved-shut r o f q T images h run = (shut r, q, shuts i j d e r run f)

  pub moved-recover : RecoverDoes i d (Ok tt) j e → (all : List (List ℕ)) → all ≡ all_images j.frames → Moves Recover (Images all) i d j e
  moved-recover f all q T images h run = (recovered e.power (given (length images) j (Ok tt)), part (length images) all q, recovers i j d e (Ok tt) run f)
    where
      part : (P : ℕ) (all : List (List ℕ)) → all ≡ all_images j.frames → now_images P j ≡ take P all
      part P all q = rw q (sym (take-map (λ f. f.now) P j.frames))

  pub moved-refused : (x : Refusal) → RecoverDoes i d (Err x) j e → Moves Recover (Refused x) i d j e
  moved-refused x f T images h run = (recovered e.power (Err x), refl, recovers i j d e (Err x) run f)

  pub moved-data : (s : ℕ) (bytes : List ℕ) (r : Result (Unit {0}) Refusal) (o : Outcome) → DataDoes s bytes i d r j e → o ≡ outcome_of r → Moves (WriteData s bytes) o i d j e
  moved-data s bytes r o f q T images h run = (data-written s bytes r, (refl, refl, q), writes-data i j d e s bytes r run f)

  pub moved-forget : j.state ≡ Down → e.sectors ≡ d.sectors → Moves Forget Done i d j e
  moved-forget down still T images h run = (forgot, refl, forgets i j d e run down still)

pub moved-spoil : (i : Inner) (d e : DiskState) (s : ℕ) → Spoils s d (Ok tt) e → Suffers (turn.Spoil s) Done i d i e
moved-spoil i d e s f T images h run = (spoiled s (Ok tt), (refl, refl), spoils i d e s (Ok tt) run f)

pub moved-unspoiled : (i : Inner) (d e : DiskState) (s : ℕ) (x : Fault) → Spoils s d (Err x) e → Suffers (turn.Spoil s) (Refused (refusal_of x)) i d i e
moved-unspoiled i d e s x f T images h run = (spoiled s (Err x), (refl, refl), spoils i d e s (Err x) run f)

pub moved : (s : Step) (o : Outcome) (i j : Inner) (d e : DiskState) → StepDoes s o i d j e → Moves s o i d j e
moved (Change page bytes) o i j d e (r, f, q) = moved-change i j d e page bytes r o f q
moved Force o i j d e (r, f, q) = moved-force i j d e r o f q
moved Shut o i j d e (r, f, q) = moved-shut i j d e r o f q
moved Recover (Images all) i j d e (f, q) = moved-recover i j d e f all q
moved Recover (Refused x) i j d e f = moved-refused i j d e x f
moved Recover Done i j d e f = absurd f
moved Recover (Group n) i j d e f = absurd f
moved (WriteData s bytes) o i j d e (r, f, q) = moved-data i j d e s bytes r o f q
moved Forget o i j d e (q, down, still) = subst (λ (x : Outcome). Moves Forget x i d j e) (sym q) (moved-forget i j d e down (ap (λ (x : DiskState). x.sectors) still))

pub suffered : (t : Turn) (o : Outcome) (i j : Inner) (d e : DiskState) → TurnDoes t o i d j e → Suffers t o i d j e
suffered (turn.Step s) o i j d e f = moved s o i j d e f
suffered (turn.Spoil s) o i j d e (same, (a, f, q)) = subst (λ (x : Inner). Suffers (turn.Spoil s) o i d x e) (sym same) (subst (λ (x : Outcome). Suffers (turn.Spoil s) x i d i e) (sym q) (by-answer a f))
  where
    by-answer : (a : Answer) → Spoils s d a e → Suffers (turn.Spoil s) (spoil_of a) i d i e
    by-answer (Ok _) f = moved-spoil i d e s f
    by-answer (Err x) f = moved-unspoiled i d e s x f
