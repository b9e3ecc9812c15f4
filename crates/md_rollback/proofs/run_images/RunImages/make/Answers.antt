use Rattle.std.proofs.Common.{◌≡◌, ◌∙◌, ◌∷◌, [], ap, sym, subst, false, List, ℕ, length, arith}
use Rattle.std.proofs.lemmas.List.Elements.{All-nil}
use Rattle.md_pads.specs.Recording.{Frame, IsFrame, no_frames}
use Rattle.md_chips.specs.Console.{power_on}
use Rattle.md_chips.specs.Machines.{MachineValue}
use Rattle.machine_laws.specs.Reached.{IsReached}
use Rattle.save_state.specs.States.{settled_console}
use Rattle.md_rollback.specs.Images.{Kept}
use Rattle.md_rollback.specs.Played.{IsPlayed}
use Rattle.md_rollback.proofs.Replayed.{first-images, first-played, one-pushed}
use Rattle.md_rollback.proofs.Steps.{image-made}
use Rattle.md_rollback.proofs.run_images.RunImages.make.Goals as goal

pub invariant_of-result : goal.invariant_of-result
invariant_of-result g c =
    let cart = g.R.Replays.cart c.args.replays in
    let spelling = g.R.Replays.spelling c.args.replays in
    let is_ready = g.R.Replays.is_ready c.args.replays in
    let is_own = g.R.Replays.is_own c.args.replays in
    let machine = c.args.machine.now in
    let played = first-played cart machine c.requires.first
    (subst (λ (k : List ℕ). IsReached 0 (power_on k no_frames false)) (c.cart.ensures ∙ ap (λ (m : MachineValue). m.console.cart) c.requires.first)
    (c.power_on_is_reached.ensures no_frames false (All-nil IsFrame))) in
    let ready = subst (λ (m : MachineValue). is_ready m.at m.console) (sym c.requires.first) (c.requires.keeps.first no_frames) in
    let image = image-made cart spelling is_own [] 0 machine played (c.keep.ensures.own ready) in
    let bytes : List ℕ = spelling machine.at (settled_console machine.at machine.console) in
    let none = c.in_ok-kept.ensures in
    let most : c.keep.new.self.most ≡ c.args.most = ap (λ (k : Kept). k.most) c.keep.ensures.kept ∙ none.most in
    let only : c.keep.new.self.images ≡ record { frames = 0; bytes = bytes } ∷ [] =
    ap (λ (k : Kept). k.images) c.keep.ensures.kept
    ∙ one-pushed c.in_ok-kept.kept.most (record { frames = 0; bytes = bytes }) c.in_ok-kept.kept.images (omega (arith, none.most, c.requires.some)) none.images in (
      first-images cart spelling is_ready is_own c.keep.new.self.most c.new.result.items c.keep.new.self.images bytes
          (omega (arith, most, c.requires.some)) c.requires.keeps c.new.ensures.items image only,
      ap (λ (k : Kept). k.size) c.keep.ensures.kept ∙ none.size ∙ c.image_size.ensures,
    )

pub returns-clause-machine : goal.returns-clause-machine
returns-clause-machine g c =
    let cart = g.R.Replays.cart c.args.replays in
    subst (λ (p : List Frame). IsPlayed cart p (length p) c.args.machine.now) (sym c.new.ensures.items)
    (first-played cart c.args.machine.now c.requires.first
    (subst (λ (k : List ℕ). IsReached 0 (power_on k no_frames false)) (c.cart.ensures ∙ ap (λ (m : MachineValue). m.console.cart) c.requires.first)
    (c.power_on_is_reached.ensures no_frames false (All-nil IsFrame))))
