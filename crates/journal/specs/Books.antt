-- What a journal owes, told by its calls and their answers alone.
--     Event           a call, its arguments and its answer; a sector that was lost; or the loss of all memory
--     Wear            what may have been lost of a disk since the journal was shut
--     lose            and one sector more
--     Book            the images that are settled, those that were to be settled if a force or a shut was cut, and those now; whether the journal is up; how many forces, shuts and recoveries were called; what may have been lost
--     at_work         the same once a recovery was called
--     laid_up         the same after a shut that is done
--     opened          the book after a format with these images
--     is_cut          a refusal is 9
--     refused_force, after_force, after_shut, after_recovery, after_change, after_data, after_loss, after_forgetting     the book after each kind of event
--     fed             the book after an event; S is where the data begins
--     all_fed         the book after a list of events
--     RefusalOwed, ForceOwed, ShutOwed     what a force and a shut may answer: 1 while down, and done, 9 or 14 while up
--     Given           what a recovery may answer
--     Allowed         what the book allows of an event
--     Lawful          it allows each event of a list
use Rattle.std.specs.Prelude.{◌≡◌, ℕ, ◌+◌, ◌^◌, ◌≤◌, ◌⊎◌, Bool, true, false, cond, List, [], ◌∷◌, Some, None, Option, Ok, Err, Result, ◌==◌, nat_lt, slice_set}
use Rattle.disk.specs.Faults.{Answer}
use Rattle.refusal.specs.declared.Refusal.{Refusal}
use Rattle.refusal.specs.declared.Refusal.TheVariants.{VolumeDown, PowerOff, NumbersUsedUp, VolumeUp}

-- a recovery tells whether the power was on after it, and the image of each page
pub data Event : Type 0 where
  changed : ℕ → List ℕ → Result (Unit {0}) Refusal → Event
  forced : Result ℕ Refusal → Event
  shut : Result (Unit {0}) Refusal → Event
  recovered : Bool → Result (List (List ℕ)) Refusal → Event
  data-written : ℕ → List ℕ → Result (Unit {0}) Refusal → Event
  spoiled : ℕ → Answer → Event
  forgot : Event

-- at work; shut, and nothing lost since; one sector, or it and the next one; more than that, and nothing is owed any more
pub data Wear : Type 0 where
  working : Wear
  whole : Wear
  one-lost : ℕ → Wear
  two-lost : ℕ → Wear
  ruined : Wear

abbrev pub lose : ℕ → Wear → Wear
lose s working = ruined
lose s whole = one-lost s
lose s (one-lost t) = cond (s == t) (one-lost t) (cond (s == t + 1) (two-lost t) (cond (t == s + 1) (two-lost s) ruined))
lose s (two-lost t) = cond (s == t) (two-lost t) (cond (s == t + 1) (two-lost t) ruined)
lose s ruined = ruined

abbrev pub at_work : Wear → Wear
at_work working = working
at_work whole = working
at_work (one-lost s) = working
at_work (two-lost s) = working
at_work ruined = ruined

abbrev pub laid_up : Wear → Wear
laid_up working = whole
laid_up whole = whole
laid_up (one-lost s) = one-lost s
laid_up (two-lost s) = two-lost s
laid_up ruined = ruined

pub record Book : Type 0 where
  pub settled : List (List ℕ)
  pub pending : Option (List (List ℕ))
  pub current : List (List ℕ)
  pub up : Bool
  pub calls : ℕ
  pub wear : Wear

abbrev pub opened : List (List ℕ) → Book
opened images = record { settled = images; pending = None; current = images; up = false; calls = 0; wear = working }

-- 9, the power failed
abbrev pub is_cut : Refusal → Bool
is_cut (PowerOff s) = true
is_cut x = false

-- a force or a shut that was refused: 9 makes the images now those that were to be settled
abbrev pub refused_force : Book → Refusal → Book
refused_force b x = record {
  settled = b.settled;
  pending = cond (is_cut x) (Some b.current) b.pending;
  current = b.current;
  up = cond (is_cut x) false b.up;
  calls = b.calls + 1;
  wear = b.wear;
}

abbrev pub after_force : Book → Result ℕ Refusal → Book
after_force b (Ok g) = record { settled = b.current; pending = None; current = b.current; up = b.up; calls = b.calls + 1; wear = b.wear }
after_force b (Err x) = refused_force b x

abbrev pub after_shut : Book → Result (Unit {0}) Refusal → Book
after_shut b (Ok _) = record { settled = b.current; pending = None; current = b.current; up = false; calls = b.calls + 1; wear = laid_up b.wear }
after_shut b (Err x) = refused_force b x

abbrev pub after_recovery : Book → Result (List (List ℕ)) Refusal → Book
after_recovery b (Ok images) = record { settled = images; pending = None; current = images; up = true; calls = b.calls + 1; wear = at_work b.wear }
after_recovery b (Err x) = record { settled = b.settled; pending = b.pending; current = b.current; up = b.up; calls = b.calls + 1; wear = at_work b.wear }

abbrev pub after_change : Book → ℕ → List ℕ → Result (Unit {0}) Refusal → Book
after_change b page bytes (Ok _) = record { settled = b.settled; pending = b.pending; current = slice_set b.current page bytes; up = b.up; calls = b.calls; wear = b.wear }
after_change b page bytes (Err x) = b

abbrev pub after_data : Book → Result (Unit {0}) Refusal → Book
after_data b (Ok _) = b
after_data b (Err x) = record { settled = b.settled; pending = b.pending; current = b.current; up = cond (is_cut x) false b.up; calls = b.calls; wear = b.wear }

abbrev pub after_loss : ℕ → Book → ℕ → Answer → Book
after_loss S b s (Ok _) =
    record { settled = b.settled; pending = b.pending; current = b.current; up = b.up; calls = b.calls; wear = cond (nat_lt s S) (lose s b.wear) b.wear }
after_loss S b s (Err x) = b

abbrev pub after_forgetting : Book → Book
after_forgetting b = record { settled = b.settled; pending = b.pending; current = b.current; up = false; calls = b.calls; wear = b.wear }

abbrev pub fed : ℕ → Book → Event → Book
fed S b (changed page bytes r) = after_change b page bytes r
fed S b (forced r) = after_force b r
fed S b (shut r) = after_shut b r
fed S b (recovered held r) = after_recovery b r
fed S b (data-written s bytes r) = after_data b r
fed S b (spoiled s a) = after_loss S b s a
fed S b forgot = after_forgetting b

abbrev pub all_fed : ℕ → Book → List Event → Book
all_fed S b [] = b
all_fed S b (e ∷ es) = all_fed S (fed S b e) es

abbrev pub Given : Book → Bool → Result (List (List ℕ)) Refusal → Type 0
Given b held (Ok images) = (b.up ≡ false) × ((images ≡ b.settled) ⊎ (b.pending ≡ Some images))
Given b held (Err (PowerOff s)) = (b.up ≡ false) × (held ≡ false)
Given b held (Err NumbersUsedUp) = (b.up ≡ false) × (2 ^ 32 ≤ b.calls + 2)
Given b held (Err VolumeUp) = b.up ≡ true
Given b held (Err x) = ⊥

-- a force or a shut that is refused
abbrev pub RefusalOwed : Book → Refusal → Type 0
RefusalOwed b VolumeDown = b.up ≡ false
RefusalOwed b (PowerOff s) = b.up ≡ true
RefusalOwed b NumbersUsedUp = b.up ≡ true
RefusalOwed b x = ⊥

abbrev pub ForceOwed : Book → Result ℕ Refusal → Type 0
ForceOwed b (Ok g) = b.up ≡ true
ForceOwed b (Err x) = RefusalOwed b x

abbrev pub ShutOwed : Book → Result (Unit {0}) Refusal → Type 0
ShutOwed b (Ok _) = b.up ≡ true
ShutOwed b (Err x) = RefusalOwed b x

abbrev pub Allowed : Book → Event → Type 0
Allowed b (changed page bytes r) = Unit {0}
Allowed b (forced r) = (b.wear ≡ ruined) ⊎ ForceOwed b r
Allowed b (shut r) = (b.wear ≡ ruined) ⊎ ShutOwed b r
Allowed b (recovered held r) = (b.wear ≡ ruined) ⊎ Given b held r
Allowed b (data-written s bytes r) = Unit {0}
Allowed b (spoiled s a) = Unit {0}
Allowed b forgot = Unit {0}

abbrev pub Lawful : ℕ → Book → List Event → Type 0
Lawful S b [] = Unit {0}
Lawful S b (e ∷ es) = Allowed b e × Lawful S (fed S b e) es
