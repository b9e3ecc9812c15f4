-- The rules of the 68000 hold at power-on, and each of its events keeps them.
use Rattle.std.proofs.Common.{◌≡◌, ℕ, zero, suc, ◌+◌, ◌-◌, ◌<◌, ◌≤◌, ◌==◌, inl, inr, Bool, true, false, List, [], ◌∷◌, length, replicate, Option, Some, None, IfSome, Result, Ok, Err, refl, sym, ap, subst, arith, ◌%◌}
use Rattle.std.specs.Prelude.{if◌then◌else◌, nat_le, slice_index, slice_set, get_or}
use Rattle.std.proofs.lemmas.Bool.{cases_lt}
use Rattle.std.proofs.Math.ListN.{get_or-eq_default}
use Rattle.md_fields.specs.Places.{IsBytes}
use Rattle.md_word.specs.declared.main_bus.Answer68.{Answer68}
use Rattle.md_word.specs.declared.main_bus.Request68.{Request68}
use Rattle.md_word.specs.declared.main_bus.Request68.TheVariants.{Read8, Read16, Write8, Write16, Ack, Word as TransferWord}
use Rattle.md_word.specs.declared.main_bus.Transfer.{Transfer}
use Rattle.m68k_access.specs.Memory.{Memory, ram_after, ram_size, stored}
use Rattle.m68k_exec.specs.Sample.Bounds as samples
use Rattle.m68k_exec.specs.Sample.Samples.{Ended}
use Rattle.m68k_access.specs.declared.stop.Stop.{Stop}
use Rattle.m68k_access.specs.declared.stop.Stop.TheVariants.{Ask, Odd}
use Rattle.m68k_exec.proofs.Bounds.Spends.{never_odd, waits}
use Rattle.m68k_chip.specs.Cases.{case_of, cause_of}
use Rattle.m68k_chip.specs.Events.{answered, answered_at, at_sample, at_word, begun, begun_with, came_to, carried_out, end_of, left_by, next_source, request_at, request_of, step, went_on, with_started}
use Rattle.m68k_chip.specs.Rules as spec
use Rattle.m68k_chip.specs.Rules.{HasRules}
use Rattle.m68k_chip.specs.Validity.{AreFit, Chip68Value, Fits, FitsValue, IsAt, IsChip68, IsWordCost, IsTransfer}
use Rattle.m68k_chip.specs.States.{State68, is_sample, next_of, none_left, power_on}
use Rattle.m68k_chip.specs.declared.stage.Stage.{Stage}
use Rattle.m68k_chip.specs.declared.stage.Stage.TheVariants.{Sample, Access, Word}
use Rattle.m68k_chip.proofs.Laws.{IsChosen, IsLevel, Ready, sample-between, chosen, halts-early, none-before, ready-more, started-rest}
use Rattle.m68k_chip.proofs.Resting.{raised}
use Rattle.m68k_chip.proofs.SampleTimes.{short}

-- ---- work RAM

set_byte : (l : List ℕ) (i v k : ℕ) → IsBytes l → v < 256 → get_or (slice_set l i v) k 0 < 256
set_byte [] i v k h lt = h k
set_byte (x ∷ l) zero v zero h lt = lt
set_byte (x ∷ l) zero v (suc k) h lt = h (suc k)
set_byte (x ∷ l) (suc i) v zero h lt = h 0
set_byte (x ∷ l) (suc i) v (suc k) h lt = set_byte l i v k (λ j. h (suc j)) lt

-- what is written leaves bytes
pub bytes_after : (ram : List ℕ) (writes : List (ℕ × ℕ)) → IsBytes ram → IsBytes (ram_after ram writes)
bytes_after ram [] h = h
bytes_after ram (w ∷ ws) h = bytes_after (stored ram w) ws (λ k. set_byte ram _ (w.1 % 0x100) k h (omega arith))

zero_byte : (n k : ℕ) → get_or (replicate n 0) k 0 < 256
zero_byte zero k = omega arith
zero_byte (suc n) zero = omega arith
zero_byte (suc n) (suc k) = zero_byte n k

-- ---- the answers are words

value_small : (request : Request68) (value : ℕ) → FitsValue request value → value < 65536
value_small (Read8 at) value fits = omega (arith, fits)
value_small (Read16 at) value fits = fits
value_small (Write8 at written) value fits = omega (arith, fits)
value_small (Write16 at written) value fits = omega (arith, fits)
value_small (Ack level) value fits = omega (arith, fits)
value_small (TransferWord word) value fits = omega (arith, fits)

pub answers_small : (cart : List ℕ) (state : State68) (cause : ℕ) (answers : List ℕ) → AreFit cart state cause answers → (k : ℕ) → slice_index answers k < 65536
answers_small cart state cause answers fit k =
    elim (cases_lt k (length answers)) [
      | inl less ↦ (let f = fit k less in value_small f.0 (slice_index answers k) f.2)
      | inr more ↦ (let none = get_or-eq_default answers 0 more in omega (arith, none))
    ]

-- ---- an event

-- what the words of a transfer cost
pub transfer_cost : (transfer : Transfer) → IsTransfer transfer → transfer.cost ≤ 380
transfer_cost transfer (inl none) = let zero = ap (λ (t : Transfer). t.cost) none in omega (arith, zero)
transfer_cost transfer (inr started) = cost_small transfer.cost started.cost
  where
    cost_small : (cost : ℕ) → IsWordCost cost → cost ≤ 380
    cost_small cost (inl is) = omega (arith, is)
    cost_small cost (inr is) = omega (arith, is)

rested_recent : (b : Bool) (at end : ℕ) (state : State68) → end ≤ at + 10000 → state.transfer.cost ≤ 380 → IsBytes state.ram → IfSome state.halted (λ since. since < at)
    → HasRules at (if b then at_sample state end else at_word state (end + state.transfer.cost))
rested_recent true at end state near cost ram since = record { ram = ram; recent = record { soon = omega (arith, near); begun = tt; since = since } }
rested_recent false at end state near cost ram since = record { ram = ram; recent = record { soon = omega (arith, near, cost); begun = tt; since = since } }

came_recent : (at : ℕ) (cart : List ℕ) (state : State68) (cause : ℕ) (answers : List ℕ) → Ready cart state cause answers → IsBytes cart → IsBytes state.ram → state.start < at
    → (r : Result Ended Stop) → carried_out cart state cause answers ≡ r → HasRules at (came_to state cause answers r)
came_recent at cart state cause answers ready image ram below (Ok ended) e =
    let memory : Memory = record { rom = cart; ram = state.ram; answers = answers } in
    let fits : samples.Fits memory = record { rom = image; ram = ram; answers = answers_small cart state cause answers ready.fit } in
    let brief = short cause state.regs memory ended fits e in
    rested_recent ((left_by state ended).transfer.words == 0) at (end_of state ended) (left_by state ended)
    (omega (arith, brief, below)) (transfer_cost state.transfer ready.transfer) (bytes_after state.ram ended.writes ram) (halts-early ended.halted state.start at below)
came_recent at cart state cause answers ready image ram below (Err (Ask request)) e =
    let few = waits cause state.regs _ request e in
    record {
      ram = ram;
      recent = record {
        soon = omega (arith, few, below);
        begun = below;
        since = subst (λ (h : Option ℕ). IfSome h (λ since. since < at)) (sym ready.running) tt;
      };
    }
came_recent at cart state cause answers ready image ram below (Err (Odd address read used)) e = absurd (never_odd cause state.regs _ address read used e)

went_recent : (at : ℕ) (cart : List ℕ) (state : State68) (cause : ℕ) (answers : List ℕ) → Ready cart state cause answers → IsBytes cart → IsBytes state.ram → state.start < at
    → HasRules at (went_on cart state cause answers)
unfolding went_on
went_recent at cart state cause answers ready image ram below = came_recent at cart state cause answers ready image ram below (carried_out cart state cause answers) refl

begun_ruled : (at : ℕ) (v : Chip68Value) → IsChip68 v → IsBytes v.cart → v.state.start < at → HasRules at v.state → (c : Option ℕ) → IsChosen v.state c → HasRules at (begun_with v.cart v.state c)
begun_ruled at v ok image below rules None is = record { ram = rules.ram; recent = record { soon = omega (arith, below); begun = tt; since = rules.recent.since } }
begun_ruled at v ok image below rules (Some cause) is =
    went_recent at v.cart v.state cause [] (record {
      image = ok.image;
      ram = ok.ram;
      status = ok.status;
      transfer = ok.transfer;
      running = is.1;
      known = is.0;
      fit = none-before v.cart v.state cause;
    }) image rules.ram below

-- a sample below the cycle keeps the rules
pub begun_rules : (at : ℕ) (v : Chip68Value) (level : ℕ) → IsLevel level → IsChip68 v → IsBytes v.cart → (next_of v.state).sample ≡ true → v.state.next < at → HasRules at v.state
    → HasRules at (begun v.cart v.state level)
unfolding begun next_of
begun_rules at v level known ok image kind below rules =
    let between = sample-between v.state.stage v.cart v.state kind ok.stands in
    let start = between.0.start in
    begun_ruled at v ok image (omega (arith, start, below)) rules (cause_of (case_of v.state level)) (chosen v.state level known)

-- a word of a transfer
moved_rules : (b : Bool) (at : ℕ) (state : State68) (cost : ℕ) → IsWordCost cost → state.next < at → HasRules at state
    → HasRules at (if b then at_sample (record state { transfer = none_left }) (state.next + step) else at_word (record state { transfer = record { source = next_source state.transfer.source; words = state.transfer.words - 1; cost = cost } }) (state.next + cost))
moved_rules true at state cost is below rules = record { ram = rules.ram; recent = record { soon = omega (arith, below); begun = tt; since = rules.recent.since } }
moved_rules false at state cost (inl is) below rules = record { ram = rules.ram; recent = record { soon = omega (arith, below, is); begun = tt; since = rules.recent.since } }
moved_rules false at state cost (inr is) below rules = record { ram = rules.ram; recent = record { soon = omega (arith, below, is); begun = tt; since = rules.recent.since } }

answered_ruled : (stage : Stage) (at : ℕ) (v : Chip68Value) (answer : Answer68) → v.state.stage ≡ stage → IsChip68 v → IsAt stage v.cart v.state → IsBytes v.cart → is_sample stage ≡ false
    → Fits (request_at stage v.cart v.state) answer → v.state.next < at → HasRules at v.state → HasRules at (answered_at stage v.cart v.state answer)
answered_ruled Sample at v answer is ok stands image kind fits below rules = absurd cc
answered_ruled Access at v answer is ok stands image kind fits below rules =
    let rest = started-rest v.state answer.transfer in
    let place = stands.place in
    let start = rest.3 in
    went_recent at v.cart (with_started v.state answer.transfer) v.state.cause _ (ready-more v answer ok stands fits) image
    (subst IsBytes (sym rest.0) rules.ram) (omega (arith, place, start, below))
answered_ruled Word at v answer is ok stands image kind fits below rules = moved_rules (nat_le v.state.transfer.words 1) at v.state answer.cost fits.cost below rules

-- an answer to an access below the cycle keeps them
pub answered_rules : (at : ℕ) (v : Chip68Value) (answer : Answer68) → IsChip68 v → IsBytes v.cart → (next_of v.state).sample ≡ false → Fits (request_of v.cart v.state) answer
    → v.state.next < at → HasRules at v.state → HasRules at (answered v.cart v.state answer)
unfolding answered next_of request_of
answered_rules at v answer ok image kind fits below rules = answered_ruled v.state.stage at v answer refl ok ok.stands image kind fits below rules

-- ---- from power-on on

pub power_on_rules : (at : ℕ) (image : List ℕ) → HasRules at (power_on image)
unfolding power_on
power_on_rules at image = record { ram = λ k. zero_byte ram_size k; recent = record { soon = omega arith; begun = tt; since = tt } }

began_below_later : (stage : Stage) (at later start : ℕ) → at ≤ later → spec.BeganBelow stage at start → spec.BeganBelow stage later start
began_below_later Sample at later start le h = tt
began_below_later Access at later start le h = omega (arith, h, le)
began_below_later Word at later start le h = tt

-- what holds at a cycle holds at each later one
pub later_rules : (at later : ℕ) (state : State68) → at ≤ later → HasRules at state → HasRules later state
later_rules at later state le h = record {
  ram = h.ram;
  recent = record {
    soon = let soon = h.recent.soon in omega (arith, soon, le);
    begun = began_below_later state.stage at later state.start le h.recent.begun;
    since = raised state.halted at later le h.recent.since;
  };
}
