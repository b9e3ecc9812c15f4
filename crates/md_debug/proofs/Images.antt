-- The kept states keep machines.
use Rattle.std.proofs.Common.{◌≡◌, ℕ, zero, suc, ◌+◌, ◌-◌, ◌<◌, ◌≤◌, List, [], ◌∷◌, length, replicate, take, drop, get_or, sym, ap, subst, ◌∙◌, arith}
use Rattle.std.proofs.lemmas.List.{get_or-drop, get_or-take, length-drop, length-take, take_at}
use Rattle.md_chips.specs.Machines.{MachineValue}
use Rattle.page_ring.specs.Kept.{IsPushed}
use Rattle.md_debug.specs.Kept.{all_pages, padded, per_state, state_size}
use Rattle.md_debug.specs.Keeping.{AreImages, image_in}

module _ (size : ℕ) (keeps : List ℕ → MachineValue → Type 0) where
  -- the first of some states, with its cycle, and the first of the others after it
  images_first : (m : MachineValue) (state : List ℕ) (at count : ℕ) (states : List (List ℕ)) (cycles : List ℕ) → AreImages size keeps states cycles
      → count ≤ length states → keeps (image_in size state) m → m.at ≡ at → AreImages size keeps (state ∷ take count states) (at ∷ take count cycles)
  images_first m state at count states cycles are few kept stands = record {
    as_many = omega (arith, are.as_many, length-take count states, length-take count cycles);
    machine = each;
  } where
    each : (i : ℕ) → i < length (state ∷ take count states) → (m : MachineValue) × (keeps (image_in size (get_or (state ∷ take count states) i [])) m × (m.at ≡ get_or (at ∷ take count cycles) i 0))
    each zero within = (m, (kept, stands))
    each (suc i) within =
        let below : i < count = omega (arith, within, length-take count states) in
        let one = are.machine i (omega (arith, below, few)) in (
          one.0,
          (
            subst (λ (s : List ℕ). keeps (image_in size s) one.0) (sym (get_or-take count states i [] below)) one.1.0,
            one.1.1 ∙ sym (get_or-take count cycles i 0 below),
          ),
        )

  pub images_dropped : (count : ℕ) (states : List (List ℕ)) (cycles : List ℕ) → AreImages size keeps states cycles → AreImages size keeps (drop count states) (drop count cycles)
  images_dropped count states cycles are = record {
    as_many = omega (arith, are.as_many, length-drop count states, length-drop count cycles);
    machine = λ i within.
        let one = are.machine (count + i) (omega (arith, within, length-drop count states)) in (
          one.0,
          (
            subst (λ (s : List ℕ). keeps (image_in size s) one.0) (sym (get_or-drop count states i [])) one.1.0,
            one.1.1 ∙ sym (get_or-drop count cycles i 0),
          ),
        );
  }

  image_there : (image : List ℕ) → length image ≡ size → image_in size (padded image) ≡ image
  image_there image long = take_at image (replicate (state_size - length image) 0) size long

  pub images_pushed : (m : MachineValue) (image : List ℕ) (at : ℕ) (states new : List (List ℕ)) (cycles new_cycles : List ℕ) → AreImages size keeps states cycles
      → length image ≡ size → keeps image m → m.at ≡ at → IsPushed all_pages per_state states (padded image) new → new_cycles ≡ take (length new) (at ∷ cycles)
      → AreImages size keeps new new_cycles
  images_pushed m image at states new cycles new_cycles are long kept stands pushed cycles_are =
      let first = images_first m (padded image) at pushed.count states cycles are pushed.within (subst (λ (l : List ℕ). keeps l m) (sym (image_there image long)) kept) stands in
      let many : length new ≡ suc pushed.count = omega (arith, ap length pushed.states, length-take pushed.count states, pushed.within) in
      let same : new_cycles ≡ at ∷ take pushed.count cycles = cycles_are ∙ ap (λ (n : ℕ). take n (at ∷ cycles)) many in
      subst (λ (c : List ℕ). AreImages size keeps new c) (sym same) (subst (λ (s : List (List ℕ)). AreImages size keeps s (at ∷ take pushed.count cycles)) (sym pushed.states) first)
