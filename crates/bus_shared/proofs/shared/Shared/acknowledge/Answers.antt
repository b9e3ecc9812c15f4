use Rattle.std.proofs.Common.{◌∙◌, ap, rules}
use Rattle.std.specs.Option.{option_map}
use Rattle.vdp_planes.specs.View.{view_of}
use Rattle.bus_shared.proofs.Shown.{acknowledged_shown, fits_on}
use Rattle.bus_shared.proofs.shared.Shared.acknowledge.Goals as goal

pub invariant_of-self : goal.invariant_of-self
invariant_of-self c = (
  search rules,
  fits_on c.self.inside.fits c.self.inside.fits (option_map (λ b. b.value) c.self.inside.line_buffer) c.self.inside.vdp.value c.acknowledge.new.vdp (λ yes. yes)
      (λ yes pal. ap (view_of pal) c.acknowledge.ensures.after ∙ acknowledged_shown c.args.level pal _ ∙ ap (view_of pal) c.deref_mut.ensures.value)
      c.self.invariant.1,
)
