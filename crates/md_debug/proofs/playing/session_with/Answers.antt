use Rattle.std.proofs.Common.{◌≡◌, subst}
use Rattle.std.specs.Prelude.{IfOk}
use Rattle.md_debug.specs.Opened.{opened}
use Rattle.md_debug.specs.Sessions.{SessionValue}
use Rattle.state_laws.specs.Images.{ImagesValue}
use Rattle.md_debug.proofs.playing.session_with.Goals as goal

pub returns : goal.returns
returns c = subst (λ (x : ImagesValue). IfOk c.open.result (λ (s : SessionValue ImagesValue). s ≡ opened x)) c.in_ok-images.ensures c.open.ensures
