-- How the debugger's machine continues.
use Rattle.std.proofs.Common.{◌≡◌, ℕ, zero, suc, ◌+◌, ◌<◌, ◌≤◌, List, [], ◌++◌, Option, option_to_list, inl, inr, add-one, refl, sym, ap, subst, ◌∙◌, append-nil, append_assoc, arith, add-suc, add-zero}
use Rattle.md_word.specs.Clock.{last_cycle}
use Rattle.md_word.specs.declared.event.Entry.{Entry}
use Rattle.md_chips.specs.Console.{AllBelow, Console, IsQuiet, IsRunTo, begins_in, journal, key_in, media_after, mover, ran}
use Rattle.md_chips.specs.Machines.{MachineValue}
use Rattle.md_chips.specs.Media.{Media}
use Rattle.md_chips.specs.Starts.{Start}
use Rattle.circular_buffer.specs.Buffer.{Buffer}
use Rattle.md_chips.proofs.Joined.{ran-add, split}
use Rattle.md_debug.specs.Debuggees.{IsDebuggee, WentOn}
use Rattle.md_debug.specs.declared.debuggee.Debuggee.{Debuggee}
use Rattle.md_debug.specs.Going.{GoesTo, RunsTo, Steps, StepsOnce, begun_by, drained, latest, least_of}
use Rattle.md_debug.specs.Going.{goes_on, ends, arrives, stays}
use Rattle.md_debug.specs.Keeping.{KeepsMachines}
use Rattle.md_chips.specs.Movers.{mover-lt}
use Rattle.md_debug.proofs.Latest.{latest_more, latest_same}

-- ---- runs one after another

begun-add : (m : Console) (a b : ℕ) → begun_by m (a + b) ≡ begun_by m a ++ begun_by (ran m a) b
unfolding begun_by
begun-add m a zero = ap (begun_by m) (add-zero a) ∙ sym (append-nil (begun_by m a))
begun-add m a (suc b) =
    ap (begun_by m) (add-suc a b)
    ∙ ap (λ (l : List ℕ). l ++ option_to_list (begins_in (ran m (a + b)))) (begun-add m a b)
    ∙ ap (λ (z : Console). (begun_by m a ++ begun_by (ran m a) b) ++ option_to_list (begins_in z)) (ran-add m a b)
    ∙ append_assoc (begun_by m a) (begun_by (ran m a) b) (option_to_list (begins_in (ran (ran m a) b)))

-- a machine that continues to a cycle, and from there to a later one, continues to that
pub goes_joined : (m w z : Console) (s t : ℕ) (first later : List ℕ) → s ≤ t → GoesTo m s w first → GoesTo w t z later → GoesTo m t z (first ++ later)
goes_joined m w z s t first later within one two =
    let after : (j : ℕ) → j < two.moves → (key_in (ran m (one.moves + j)) (mover (ran m (one.moves + j)))).cycle < t = λ j below.
    subst (λ (x : Console). (key_in x (mover x)).cycle < t) (ap (λ (x : Console). ran x j) one.console ∙ sym (ran-add m one.moves j)) (two.below j below) in
    record {
      moves = one.moves + two.moves;
      below = λ k below. elim (split k one.moves two.moves below) [
        | inl cases_lt ↦ omega (arith, one.below k cases_lt)
        | inr late ↦ rw late.2 (after late.0 late.1)
      ];
      quiet = two.quiet;
      console = two.console ∙ ap (λ (x : Console). ran x two.moves) one.console ∙ sym (ran-add m one.moves two.moves);
      begins =
          (λ i. one.begins i ++ two.begins i)
          ∙ ap (λ (x : Console). begun_by m one.moves ++ begun_by x two.moves) one.console
          ∙ sym (begun-add m one.moves two.moves);
    }

-- a machine of which no event is below a cycle is there
pub goes_nowhere : (m : Console) (end : ℕ) → IsQuiet end m → GoesTo m end m []
unfolding ran begun_by
goes_nowhere m end quiet = record { moves = 0; below = λ k before. absurd (omega (arith, before)); quiet = quiet; console = refl; begins = refl }

-- a run to a cycle below which no event stood
nothing_moves : (m : Console) (end n : ℕ) → AllBelow m end n → end ≤ least_of m → n ≡ 0
unfolding ran
nothing_moves m end zero below late = refl
nothing_moves m end (suc n) below late = absurd (let first = below 0 (omega arith) in omega (arith, late, first))

pub goes_quietly : (m z : Console) (end : ℕ) (entries : List Entry) (output : Media) → IsRunTo m end z entries output → end ≤ least_of m → GoesTo m end z []
unfolding begun_by
goes_quietly m z end entries output run late = record {
  moves = run.moves;
  below = run.below;
  quiet = run.quiet;
  console = run.console;
  begins = sym (ap (begun_by m) (nothing_moves m end run.moves run.below late));
}

-- a run past the least cycle has moves
some_moves : (m z : Console) (end n : ℕ) → IsQuiet end z → z ≡ ran m n → least_of m < end → 1 ≤ n
unfolding ran
some_moves m z end zero quiet same past =
    let stands = quiet (mover m) (mover-lt m) in
    let here : (key_in z (mover m)).cycle ≡ least_of m = ap (λ (x : Console). (key_in x (mover m)).cycle) same in
    absurd (omega (arith, stands, here, past))
some_moves m z end (suc n) quiet same past = omega arith

goes_once : (m z : Console) (end : ℕ) (entries : List Entry) (output : Media) → IsRunTo m end z entries output → end ≡ least_of m + 1
    → ((moves : ℕ) → AllBelow m (least_of m + 1) moves → 1 ≤ moves → begun_by m moves ≡ option_to_list (begins_in m))
    → GoesTo m (least_of m + 1) z (option_to_list (begins_in m))
goes_once m z end entries output run is alone =
    let below : AllBelow m (least_of m + 1) run.moves = λ k within. let one = run.below k within in omega (arith, one, is) in
    let quiet : IsQuiet (least_of m + 1) z = λ i less. let one = run.quiet i less in omega (arith, one, is) in
    record {
      moves = run.moves;
      below = below;
      quiet = quiet;
      console = run.console;
      begins = sym (alone run.moves below (some_moves m z (least_of m + 1) run.moves quiet run.console (omega arith)));
    }

-- ---- the debuggee continues

pub went_joined : (old mid new : Debuggee) (s t : ℕ) → s ≤ t → WentOn old s mid → WentOn mid t new → WentOn old t new
went_joined old mid new s t within one two = record {
  at = two.at;
  begun = one.begun ++ two.begun;
  goes = goes_joined old.machine.console mid.machine.console new.machine.console s t one.begun two.begun within one.goes two.goes;
  remembered = latest_more old.begun.items mid.begun.items new.begun.items one.begun two.begun one.remembered two.remembered;
  ready = two.ready;
}

-- all events of the least cycle
pub went_once : (old mid new : Debuggee) (least : ℕ) (begins : Option ℕ) → least ≡ least_of old.machine.console → begins ≡ begins_in old.machine.console → mid.machine.at ≡ least + 1
    → (entries : List Entry) × ((output : Media) × IsRunTo old.machine.console (least + 1) mid.machine.console entries output) → mid.begun ≡ old.begun → new.machine ≡ mid.machine
    → new.begun.items ≡ latest (mid.begun.items ++ option_to_list begins) → IsDebuggee new
    → ((moves : ℕ) → AllBelow old.machine.console (least_of old.machine.console + 1) moves → 1 ≤ moves → begun_by old.machine.console moves ≡ option_to_list (begins_in old.machine.console))
    → WentOn old (least_of old.machine.console + 1) new
went_once old mid new least begins is begin at run kept same remembered ready alone =
    let m : Console = old.machine.console in
    let there : new.machine.console ≡ mid.machine.console = ap (λ (x : MachineValue). x.console) same in
    let next : least + 1 ≡ least_of old.machine.console + 1 = ap (λ (n : ℕ). n + 1) is in
    record {
      at = ap (λ (x : MachineValue). x.at) same ∙ at ∙ next;
      begun = option_to_list (begins_in m);
      goes = subst (λ (z : Console). GoesTo m (least_of m + 1) z (option_to_list (begins_in m))) (sym there) (goes_once m mid.machine.console (least + 1) run.0 run.1.0 run.1.1 next alone);
      remembered = remembered ∙ (λ i. latest ((kept i).items ++ option_to_list (begin i)));
      ready = ready;
    }

-- and on from there
pub went_again : (old mid new : Debuggee) (t : ℕ) → WentOn old mid.machine.at mid → WentOn mid t new → mid.machine.at ≤ t → WentOn old new.machine.at new
went_again old mid new t one two within =
    subst (λ (n : ℕ). WentOn old n new) (sym two.at) (went_joined old mid new mid.machine.at t within one two)

-- the rest of the way, on which no event is
pub went_quietly : (old mid new : Debuggee) (end : ℕ) → WentOn old mid.machine.at mid → mid.machine.at ≤ end → end ≤ least_of mid.machine.console → new.machine.at ≡ end
    → (entries : List Entry) × ((output : Media) × IsRunTo mid.machine.console end new.machine.console entries output) → new.begun ≡ mid.begun → IsDebuggee new → WentOn old end new
went_quietly old mid new end so_far within late at run kept ready =
    went_joined old mid new mid.machine.at end within so_far
    (record {
      at = at;
      begun = [];
      goes = goes_quietly mid.machine.console new.machine.console end run.0 run.1.0 run.1.1 late;
      remembered = ap (λ (b : Buffer ℕ). b.items) kept ∙ latest_same mid.begun.items so_far.ready.few;
      ready = ready;
    })

pub steps_none : (start : Start) → Steps 0 start start []
unfolding Steps
steps_none start = (refl, refl)

pub steps_more : (n : ℕ) (start mid after : Start) (first later : List ℕ) → Steps n start mid first → StepsOnce mid after later → Steps (n + 1) start after (first ++ later)
unfolding Steps
steps_more n start mid after first later steps once =
    let P : ℕ → Type 0 = λ k. Steps k start after (first ++ later) in
    subst P (sym (add-one n)) (mid, (first, (later, (steps, (once, refl)))))

pub went_nowhere : (d : Debuggee) → IsDebuggee d → WentOn d d.machine.at d
went_nowhere d ready = record {
  at = refl;
  begun = [];
  goes = goes_nowhere d.machine.console d.machine.at ready.start.quiet;
  remembered = latest_same d.begun.items ready.few;
  ready = ready;
}

-- ---- the machines that have images

module _ (is_own : MachineValue → Type 0) (read_back : MachineValue → MachineValue) (keeps : KeepsMachines is_own read_back) where
  -- a machine to which one of them goes has an image
  own_on : (start : Start) (end : ℕ) (z : Console) (begun : List ℕ) → is_own (drained start) → start.at ≤ end → end ≤ last_cycle → GoesTo start.console end z begun
      → is_own (drained (record { at = end; console = z }))
  own_on start end z begun own later near goes =
      keeps.runs (drained start) end z (journal start.console goes.moves) (media_after start.console goes.moves) own later near
      (record { moves = goes.moves; below = goes.below; quiet = goes.quiet; console = goes.console; entered = refl; rendered_to = refl })

  own_once : (start after : Start) (begun : List ℕ) → is_own (drained start) → StepsOnce start after begun → is_own (drained after)
  own_once start after begun own (goes_on far at goes) =
      let late : start.at ≤ least_of start.console = (keeps.start (drained start) own).quiet (mover start.console) (mover-lt start.console) in
      own_on start after.at after.console begun own (omega (arith, at, late)) (omega (arith, at, far)) goes
  own_once start after begun own (ends far same none) = subst (λ (s : Start). is_own (drained s)) (sym same) own

  pub own_steps : (n : ℕ) (start after : Start) (begun : List ℕ) → is_own (drained start) → Steps n start after begun → is_own (drained after)
  unfolding Steps
  own_steps zero start after begun own steps = subst (λ (s : Start). is_own (drained s)) (sym steps.0) own
  own_steps (suc n) start after begun own steps =
      own_once steps.0 after steps.1.1.0 (own_steps n start steps.0 steps.1.0 own steps.1.1.1.0) steps.1.1.1.1.0

  pub own_run : (end : ℕ) (start after : Start) (begun : List ℕ) → end ≤ last_cycle → is_own (drained start) → RunsTo end start after begun → is_own (drained after)
  own_run end start after begun near own (arrives later at goes) =
      subst (λ (n : ℕ). is_own (drained (record { at = n; console = after.console }))) (sym at) (own_on start end after.console begun own (omega arith) near goes)
  own_run end start after begun near own (stays late same none) = subst (λ (s : Start). is_own (drained s)) (sym same) own
