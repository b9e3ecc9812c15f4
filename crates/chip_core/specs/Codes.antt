-- The list of numbers of a core with an empty journal, from ways to write its shared state and its
-- chips.
use Rattle.std.specs.Prelude.{ℕ, List, [], refl}
use Rattle.std.proofs.Common.{sym, ◌∙◌, ap}
use Rattle.md_word.specs.declared.key.Key.{Key}
use Rattle.md_word.specs.Coding.{Way, number, by_way, both, many}
use Rattle.chip_core.specs.Chips.{Rules}
use Rattle.chip_core.specs.Cores.{CoreValue, IsCoded}

-- a key as two numbers: its cycle, then its chip
abbrev pub key_way : Way Key
key_way = by_way (both number number) (λ k. (k.cycle, k.chip)) (λ p. record { cycle = p.0; chip = p.1 }) (λ k. refl)

module _ {Chip Shared : Type 0} (shared : Way Shared) (chip : Way Chip) where
  -- a core as numbers: the shared state, the chips, the bounds
  abbrev pub core_way : Way (Shared × (List Chip × List Key))
  core_way = both shared (both (many chip) (many key_way))

  -- the core of these parts, with an empty journal of no room
  abbrev pub of_parts : Shared × (List Chip × List Key) → CoreValue Chip Shared
  of_parts p = record { shared = p.0; chips = p.1.0; bounds = p.1.1; journal = []; room = 0 }

  -- the numbers that spell a core but for its journal
  unfoldable pub code_of : CoreValue Chip Shared → List ℕ
  code_of v = core_way.write (v.shared, (v.chips, v.bounds)) []

  -- the core that numbers spell
  unfoldable pub core_of : List ℕ → CoreValue Chip Shared
  core_of l = of_parts (core_way.read l).0

  -- the numbers give a core back whose journal is empty, but for its room
  pub coded : {Pins : Type 0} (rules : Rules Chip Shared Pins) (chip_ok : Chip → Type 0) (shared_ok : Shared → Type 0) → IsCoded rules chip_ok shared_ok code_of core_of
  unfolding code_of core_of
  coded rules chip_ok shared_ok = record {
    back = λ v core empty. ap (λ p. of_parts p.0) (core_way.back (v.shared, (v.chips, v.bounds)) []) ∙ ap (λ es. record v { journal = es; room = 0 }) (sym empty);
  }
