use Rattle.std.proofs.Common.{◌∙◌, ap, arith, rules}
use Rattle.std.specs.Option.{option_map}
use Rattle.vdp_planes.specs.View.{view_of}
use Rattle.bus_shared.proofs.Shown.{fits_on, line_shown}
use Rattle.bus_shared.proofs.shared.Shared.line.Goals as goal

pub invariant_of-self : goal.invariant_of-self
invariant_of-self c = (
  search rules,
  fits_on c.self.inside.fits c.stays-self-inside.result (option_map (λ b. b.value) c.self.inside.line_buffer) c.self.inside.vdp.value c.begin_line.new.vdp c.stays-self-inside.ensures.fits
      (λ yes pal. ap (view_of pal) c.begin_line.ensures.after ∙ line_shown c.args.cycle c.args.note pal _ (grind (arith, c.behind-self-2.view_is, c.deref-2.ensures, c.deref_mut.ensures.value, c.stays-self-inside.ensures.still yes)) (grind (arith, c.behind-self.view_is, c.deref.ensures, c.deref_mut.ensures.value, c.line_of-first.ensures.value, c.stays-self-inside.ensures.kept yes)) ∙ ap (view_of pal) c.deref_mut.ensures.value)
      c.self.invariant.1,
)
