-- A processor that goes ahead goes as the scheduler's rules say.
use Rattle.std.proofs.Common.{◌≡◌, ℕ, zero, suc, ◌<◌, true, refl, ap, ap₂, sym, subst, ◌∙◌, arith}
use Rattle.std.proofs.lemmas.Bool.Decides.{nat_tests}
use Rattle.md_word.specs.declared.key.Key.{Key}
use Rattle.md_word.specs.Keys.{key_lt}
use Rattle.chip_core.specs.Chips.{SamplesBelow, SamplesTo, sampled}
use Rattle.m68k_chip.specs.Events as events68
use Rattle.m68k_chip.specs.States as states68
use Rattle.m68k_chip.specs.States.{State68}
use Rattle.z80_chip.specs.Events.{WentAhead, begun_after}
use Rattle.z80_chip.specs.States.{State80, is_sample, next_of}
use Rattle.z80_chip.specs.declared.stage.Stage.TheVariants.{Sample}
use Rattle.md_chips.specs.Parts.{MainValue, SubValue}
use Rattle.md_chips.specs.Pins.{level_in, sub_in}
use Rattle.md_chips.specs.Rules.{five}
use Rattle.md_chips.specs.declared.chips.Chip.TheVariants.{Main, Sub}
use Rattle.md_chips.specs.declared.pins.Pins.{Pins}

-- the chip in another state
abbrev sub_in_state : SubValue → State80 → SubValue
sub_in_state c state = record c { chip = record c.chip { state = state } }

pub all-sub-begun : (c : SubValue) (pins : Pins) (n : ℕ) → sampled five n pins (Sub c) ≡ Sub (sub_in_state c (begun_after n c.chip.cart c.chip.state (sub_in pins)))
unfolding sampled begun_after
all-sub-begun c pins zero = refl
all-sub-begun c pins (suc n) = ap (λ x. five.sample x pins) (all-sub-begun c pins n)

sub-before : (next : ℕ) (end : Key) → next < end.cycle → key_lt (record { cycle = next; chip = 1 }) end ≡ true
sub-before next end low = grind (arith, nat_tests)

sub-samples-before : (end : Key) (c : SubValue) (state : State80) → state.stage ≡ Sample → state.next < end.cycle → SamplesBelow five end (Sub (sub_in_state c state))
unfolding next_of
sub-samples-before end c state stage low = (ap is_sample stage, sub-before state.next end low)

all-sub-before : (n : ℕ) (end : Key) (pins : Pins) (c : SubValue) (after : State80) → SamplesBelow five end (Sub c) → (went : WentAhead n end.cycle c.chip.cart (sub_in pins) c.chip.state after)
    → (k : ℕ) → k < n → SamplesBelow five end (sampled five k pins (Sub c))
unfolding sampled
all-sub-before n end pins c after first went zero h = first
all-sub-before n end pins c after first went (suc k) h =
    subst (λ x. SamplesBelow five end x) (sym (all-sub-begun c pins (suc k)))
    (sub-samples-before end c (begun_after (suc k) c.chip.cart c.chip.state (sub_in pins)) (went.sample (suc k) (omega arith) h) (went.below (suc k) (omega arith) h))

pub sub_gone_ahead : (n : ℕ) (end : Key) (pins : Pins) (c d : SubValue) → SamplesBelow five end (Sub c) → WentAhead n end.cycle c.chip.cart (sub_in pins) c.chip.state d.chip.state
    → d.chip.cart ≡ c.chip.cart → d.answer ≡ c.answer → SamplesTo five n end pins (Sub c) (Sub d)
sub_gone_ahead n end pins c d first went cart answer = record {
  some = went.some;
  each = all-sub-before n end pins c d.chip.state first went;
  is = ap₂ (λ image reported. Sub (record { chip = record { cart = image; state = d.chip.state }; answer = reported })) cart answer
      ∙ ap (λ state. Sub (sub_in_state c state)) went.is ∙ sym (all-sub-begun c pins n);
}

-- the same of the 68000
abbrev pub main_in_state : MainValue → State68 → MainValue
main_in_state c state = record c { chip = record c.chip { state = state } }

all-main-begun : (c : MainValue) (pins : Pins) (n : ℕ) → sampled five n pins (Main c) ≡ Main (main_in_state c (events68.begun_after n c.chip.cart c.chip.state (level_in pins)))
unfolding sampled events68.begun_after
all-main-begun c pins zero = refl
all-main-begun c pins (suc n) = ap (λ x. five.sample x pins) (all-main-begun c pins n)

main-before : (next : ℕ) (end : Key) → next < end.cycle → key_lt (record { cycle = next; chip = 0 }) end ≡ true
main-before next end low = grind (arith, nat_tests)

pub main-samples-before : (end : Key) (c : MainValue) (state : State68) → (states68.next_of state).sample ≡ true → state.next < end.cycle → SamplesBelow five end (Main (main_in_state c state))
unfolding states68.next_of
main-samples-before end c state sample low = (sample, main-before state.next end low)

all-main-before : (n : ℕ) (end : Key) (pins : Pins) (c : MainValue) (after : State68) → SamplesBelow five end (Main c) → (went : events68.WentAhead n end.cycle c.chip.cart (level_in pins) c.chip.state after)
    → (k : ℕ) → k < n → SamplesBelow five end (sampled five k pins (Main c))
unfolding sampled
all-main-before n end pins c after first went zero h = first
all-main-before n end pins c after first went (suc k) h =
    subst (λ x. SamplesBelow five end x) (sym (all-main-begun c pins (suc k)))
    (main-samples-before end c (events68.begun_after (suc k) c.chip.cart c.chip.state (level_in pins)) (went.sample (suc k) (omega arith) h) (went.below (suc k) (omega arith) h))

pub main_gone_ahead : (n : ℕ) (end : Key) (pins : Pins) (c d : MainValue) → SamplesBelow five end (Main c) → events68.WentAhead n end.cycle c.chip.cart (level_in pins) c.chip.state d.chip.state
    → d.chip.cart ≡ c.chip.cart → d.answer ≡ c.answer → SamplesTo five n end pins (Main c) (Main d)
main_gone_ahead n end pins c d first went cart answer = record {
  some = went.some;
  each = all-main-before n end pins c d.chip.state first went;
  is = ap₂ (λ image reported. Main (record { chip = record { cart = image; state = d.chip.state }; answer = reported })) cart answer
      ∙ ap (λ state. Main (main_in_state c state)) went.is ∙ sym (all-main-begun c pins n);
}
