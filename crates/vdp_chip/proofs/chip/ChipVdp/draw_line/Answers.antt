use Rattle.std.proofs.Common.{◌≡◌, ◌≤◌}
use Rattle.std.specs.Prelude.{is_some}
use Rattle.vdp_time.specs.Lines.{line_of}
use Rattle.vdp_planes.specs.View.{seen}
use Rattle.vdp_chip.specs.declared.kept.Kept.TheVariants as kinds
use Rattle.md_word.specs.Region.{rows}
use Rattle.vdp_chip.specs.Kept.{kept_frame}
use Rattle.vdp_chip.proofs.Lined.{renderer_state_reported, kept_next}
use Rattle.vdp_chip.proofs.chip.ChipVdp.draw_line.Goals as goal

pub invariant_of-self : goal.invariant_of-self
invariant_of-self c =
    let step = c.draw-self-inside in
    let chip = c.self.inside in
    let number = c.line_of-line.ensures.value in
    let free : step.result ≡ kinds.Picture → rows chip.pal ≤ line_of chip.next chip.pal = λ e. (rw number at (step.ensures.free e)) in (
      renderer_state_reported chip.pal (seen c.args.scene.now) c.args.sprites.now chip.next c.line_of-line.result chip.note c.args.note (is_some chip.view)
          chip.picture.value step.new.picture.value (kept_frame chip.pal chip.kept chip.picture.value chip.aside.value) (kept_frame chip.pal step.result step.new.picture.value step.new.aside.value)
          c.self.invariant.0 number step.ensures.picture step.ensures.frame,
      kept_next chip.pal chip.next step.result step.new.aside.value c.self.invariant.0.at_line step.ensures.whole free,
    )
