-- An action that makes the accesses of a list in their order: what it is, and how such actions are put
-- together.
use Rattle.std.proofs.Common.{◌≡◌, ℕ, ◌+◌, ◌≤◌, ◌∙◌, Bool, true, false, List, [], ◌∷◌, ◌++◌, length, Some, Result, Ok, Err, refl, ap, sym, subst, arith, append_assoc, append-nil, length-append}
use Rattle.std.specs.Prelude.{IsTrue, if◌then◌else◌, slice_get}
use Rattle.std.proofs.lemmas.Grind.{flat_map-append}
use Rattle.std.proofs.lemmas.List.Elements.{All-append, All-nil, filter-append}
use Rattle.md_word.specs.Map.{is_shared}
use Rattle.md_word.specs.declared.main_bus.Request68.{Request68}
use Rattle.m68k_access.specs.Actions as actions
use Rattle.md_word.specs.Answers.{Done}
use Rattle.m68k_access.specs.Actions.{Act, ◌>>=◌, go_on}
use Rattle.m68k_access.specs.Memory.{Memory, bus_address}
use Rattle.m68k_access.specs.declared.stop.Stop.{Stop}
use Rattle.m68k_access.specs.declared.stop.Stop.TheVariants.{Ask, Odd}
use Rattle.m68k_laws.specs.Accesses.{Access, IsEven, shared, words}
use Rattle.m68k_laws.specs.Laws.{FaultsAt, IsComplete, LeadsTo, WaitsAt}

-- so many answers further on, with no more taken than there are
pub record EndsAlong (list : List Access) (count start after : ℕ) : Type 0 where
  pub taken : ℕ
  pub used : after ≡ start + taken
  pub enough : after ≤ count
  pub completes : IsComplete list taken

pub record AsksAlong (list : List Access) (count start : ℕ) (request : Request68) : Type 0 where
  pub taken : ℕ
  pub used : count ≡ start + taken
  pub waits : WaitsAt list taken request

pub record FaultsAlong (list : List Access) (count start after address : ℕ) (read : Bool) : Type 0 where
  pub taken : ℕ
  pub used : after ≡ start + taken
  pub enough : after ≤ count
  pub faults : FaultsAt list taken address read

-- the result of an action of these words, with so many answers there and so many taken before
abbrev pub GoesAlong : {A : Type 0} → List Access → ℕ → ℕ → Result (A × Done) Stop → Type 0
GoesAlong list count used (Ok x) = EndsAlong list count used x.1.used
GoesAlong list count used (Err (Ask request)) = AsksAlong list count used request
GoesAlong list count used (Err (Odd address read after)) = FaultsAlong list count used after address read

pub record Follows {A : Type 0} (list : List Access) (act : Act A) : Type 0 where
  pub along : (memory : Memory) (before : Done) → before.used ≤ length memory.answers → GoesAlong (words list) (length memory.answers) before.used (act memory before)

shared_joined : (u v : List Access) → length (shared (u ++ v)) ≡ length (shared u) + length (shared v)
shared_joined u v = ap length (filter-append _ u v) ∙ length-append (shared u) (shared v)

leads_first : (u v : List Access) (count : ℕ) (access : Access) → LeadsTo u count access → LeadsTo (u ++ v) count access
leads_first u v count access h = record {
  before = h.before;
  following = h.following ++ v;
  split = ap (λ list. list ++ v) h.split ∙ append_assoc h.before (access ∷ h.following) v;
  even = h.even;
  counted = h.counted;
}

leads_later : (u v : List Access) (first count : ℕ) (access : Access) → IsComplete u first → LeadsTo v count access → LeadsTo (u ++ v) (first + count) access
leads_later u v first count access made h = record {
  before = u ++ h.before;
  following = h.following;
  split = ap (λ list. u ++ list) h.split ∙ sym (append_assoc u h.before (access ∷ h.following));
  even = All-append IsEven u h.before made.even h.even;
  counted = omega (arith, made.counted, h.counted, shared_joined u h.before);
}

-- the number of an access among the shared ones
after_front : {X : Type 0} (front : List X) (x : X) (back : List X) → slice_get (front ++ x ∷ back) (length front) ≡ Some x
after_front [] x back = refl
after_front (first ∷ more) x back = after_front more x back

shared_next : (access : Access) (following : List Access) → IsTrue (is_shared (bus_address access.address)) → shared (access ∷ following) ≡ access ∷ shared following
shared_next access following h = rw h refl

shared_split : (list before : List Access) (access : Access) (following : List Access) → list ≡ before ++ access ∷ following → IsTrue (is_shared (bus_address access.address)) → shared list ≡ shared before ++ access ∷ shared following
shared_split list before access following e h =
    ap shared e ∙ (filter-append _ before (access ∷ following) ∙ ap (λ rest. shared before ++ rest) (shared_next access following h))

pub numbered : (list : List Access) (count : ℕ) (access : Access) → LeadsTo list count access → IsTrue (is_shared (bus_address access.address)) → slice_get (shared list) count ≡ Some access
numbered list count access leads h =
    rw (leads.counted, shared_split list leads.before access leads.following leads.split h) (after_front (shared leads.before) access (shared leads.following))

-- what stopped in the first part
stopped : (A B : Type 0) (u v : List Access) (count used : ℕ) (stop : Stop) → GoesAlong {A = A} u count used (Err stop) → GoesAlong {A = B} (u ++ v) count used (Err stop)
stopped A B u v count used (Ask request) h = record {
  taken = h.taken;
  used = h.used;
  waits = record {
    access = h.waits.access;
    numbered = numbered (u ++ v) h.taken h.waits.access (leads_first u v h.taken h.waits.access h.waits.leads) h.waits.shared;
    leads = leads_first u v h.taken h.waits.access h.waits.leads;
    even = h.waits.even;
    shared = h.waits.shared;
    request = h.waits.request;
  };
}
stopped A B u v count used (Odd address read after) h = record {
  taken = h.taken;
  used = h.used;
  enough = h.enough;
  faults = record {
    access = h.faults.access;
    leads = leads_first u v h.taken h.faults.access h.faults.leads;
    odd = h.faults.odd;
    address = h.faults.address;
    read = h.faults.read;
  };
}

-- what came after the first part
went_on : {B : Type 0} (u v : List Access) (count used middle : ℕ) (result : Result (B × Done) Stop) → EndsAlong u count used middle → GoesAlong v count middle result → GoesAlong (u ++ v) count used result
went_on u v count used middle (Ok x) first h = record {
  taken = first.taken + h.taken;
  used = omega (arith, first.used, h.used);
  enough = h.enough;
  completes = record {
    even = All-append IsEven u v first.completes.even h.completes.even;
    counted = omega (arith, first.completes.counted, h.completes.counted, shared_joined u v);
  };
}
went_on u v count used middle (Err (Ask request)) first h = record {
  taken = first.taken + h.taken;
  used = omega (arith, first.used, h.used);
  waits = record {
    access = h.waits.access;
    numbered = numbered (u ++ v) (first.taken + h.taken) h.waits.access (leads_later u v first.taken h.taken h.waits.access first.completes h.waits.leads) h.waits.shared;
    leads = leads_later u v first.taken h.taken h.waits.access first.completes h.waits.leads;
    even = h.waits.even;
    shared = h.waits.shared;
    request = h.waits.request;
  };
}
went_on u v count used middle (Err (Odd address read after)) first h = record {
  taken = first.taken + h.taken;
  used = omega (arith, first.used, h.used);
  enough = h.enough;
  faults = record {
    access = h.faults.access;
    leads = leads_later u v first.taken h.taken h.faults.access first.completes h.faults.leads;
    odd = h.faults.odd;
    address = h.faults.address;
    read = h.faults.read;
  };
}

joined : {A B : Type 0} (u v : List Access) (count used : ℕ) (first : Result (A × Done) Stop) (next : A → Done → Result (B × Done) Stop) → GoesAlong u count used first → ((x : A) (middle : Done) → middle.used ≤ count → GoesAlong v count middle.used (next x middle)) → GoesAlong (u ++ v) count used (go_on first next)
joined {A} {B} u v count used (Ok x) next h k = went_on u v count used x.1.used (next x.0 x.1) h (k x.0 x.1 h.enough)
joined {A} {B} u v count used (Err stop) next h k = stopped A B u v count used stop h

pub bind : {A B : Type 0} (u v : List Access) (act : Act A) (next : A → Act B) → Follows u act → ((x : A) → Follows v (next x)) → Follows (u ++ v) (act >>= next)
bind u v act next h k = record {
  along = λ memory before within.
      subst (λ list. GoesAlong list (length memory.answers) before.used ((act >>= next) memory before)) (sym (flat_map-append _ u v))
      (joined (words u) (words v) (length memory.answers) before.used (act memory before) (λ x middle. next x memory middle) (h.along memory before within) (λ x middle enough. (k x).along memory middle enough));
}

-- the same list under another name
pub same : {A : Type 0} (u v : List Access) (act : Act A) → u ≡ v → Follows u act → Follows v act
same u v act e h = subst (λ list. Follows list act) e h

-- the last action makes no access
pub last : {A B : Type 0} (u : List Access) (act : Act A) (next : A → Act B) → Follows u act → ((x : A) → Follows [] (next x)) → Follows u (act >>= next)
last u act next h k = same (u ++ []) u _ (append-nil u) (bind u [] act next h k)

-- two actions in one
regrouped : {A B C : Type 0} (list : List Access) (count used : ℕ) (first : Result (A × Done) Stop) (f : A → B) (next : B → Done → Result (C × Done) Stop) → GoesAlong list count used (go_on first (λ x middle. next (f x) middle)) → GoesAlong list count used (go_on (go_on first (λ x middle. Ok (f x, middle))) next)
regrouped list count used (Ok x) f next h = h
regrouped list count used (Err stop) f next h = h

pub through : {A B C : Type 0} (list : List Access) (act : Act A) (f : A → B) (next : B → Act C) → Follows list (act >>= (λ x. next (f x))) → Follows list ((act >>= (λ x. actions.give (f x))) >>= next)
through list act f next h = record {
  along = λ memory before within. regrouped (words list) (length memory.answers) before.used (act memory before) f (λ x middle. next x memory middle) (h.along memory before within);
}

pub choice : {A : Type 0} (list : List Access) (test : Bool) (one other : Act A) → Follows list one → Follows list other → Follows list (λ memory done. if test then one memory done else other memory done)
choice list true one other h k = h
choice list false one other h k = k

-- nothing is accessed, and no answer taken
pub none : {A : Type 0} (f : Memory → Done → A) (g : Done → Done) → ((done : Done) → (g done).used ≡ done.used) → Follows [] (λ memory done. Ok (f memory done, g done))
none f g kept = record {
  along = λ memory before within. record {
    taken = 0;
    used = omega (arith, kept before);
    enough = omega (arith, kept before, within);
    completes = record { even = All-nil IsEven; counted = refl };
  };
}

pub give : {A : Type 0} (x : A) → Follows [] (actions.give x)
give x = none (λ memory done. x) (λ done. done) (λ done. refl)
