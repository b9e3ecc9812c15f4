use Rattle.std.proofs.Common.{◌≡◌, ℕ, ◌<◌, List, [], length, take, get_or, Result, Ok, Err, sym, subst, ◌∙◌, arith}
use Rattle.page_ring.specs.declared.images.ImageFault.{ImageFault}
use Rattle.page_ring.specs.declared.images.ImageFault.TheVariants.{Form, NoMemory}
use Rattle.md_debug.proofs.session.Session.kept_machine.Goals as goal

no_machine : {T E : Type 0} (r : Result T E) (m : T) (f : E) → r ≡ Ok m → r ≡ Err f → ⊥
no_machine r m f good bad = cc

not_both : {T : Type 0} (r : Result T ImageFault) (f : ImageFault) → r ≡ Err f → f ≡ Form → r ≡ Err NoMemory → ⊥
not_both r f bad form memory = cc

pub unreachable-requires : goal.unreachable-requires
unreachable-requires g c =
    let states : length c.self.inside.kept.states ≡ length c.args.self.now.states = (λ i. length (c.self.view_is i).states) in
    let there : c.args.newer < length c.self.inside.kept.states = omega (arith, c.requires, states) in
    let one = c.self.invariant.images.machine c.args.newer there in
    let fetched : c.fetched.result.now ≡ get_or c.self.inside.kept.states c.args.newer [] = c.fetched.ensures.state ∙ (λ i. (c.fetch.ensures i).fetched) in
    let bytes : take c.image_size-size.result c.fetched.result.now ≡ take (g.I.Images.size c.self.inside.images) (get_or c.self.inside.kept.states c.args.newer []) =
    (λ i. take (c.image_size-size.ensures i) (fetched i)) in
    let keeps = subst (λ (l : List ℕ). g.I.Images.keeps c.self.inside.images l one.0) (sym bytes) one.1.0 in
    no_machine c.machine.result one.0 c.in-Err-Form.field-0 (c.machine.ensures.only one.0 keeps (not_both c.machine.result c.in-Err-Form.field-0 c.in-Err-Form.is c.in-Err-Form.field-0-is)) c.in-Err-Form.is
