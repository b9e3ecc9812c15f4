use Rattle.std.proofs.Common.{◌≡◌, length, refl, ap, ◌∙◌}
use Rattle.md_demo.specs.Demo.{demo_cart, stream}
use Rattle.md_demo.proofs.Carts.{fault_of-demo_cart, image-demo_cart, length-demo_cart}
use Rattle.md_demo.proofs.cart.demo_cart.Goals as goal

bytes_are : (c : goal.In_ok-push_stream) → c.push_stream.new.bytes.items ≡ demo_cart c.args.number
unfolding demo_cart stream
bytes_are c = rw (c.in_ok-push_stream.ensures, c.in_ok-push_head.ensures, c.new.ensures) refl

pub returns-clause-length : goal.returns-clause-length
returns-clause-length c = ap length (bytes_are c) ∙ length-demo_cart c.args.number

pub returns-clause-accepted : goal.returns-clause-accepted
returns-clause-accepted c = rw (bytes_are c) (fault_of-demo_cart c.args.number)

pub returns-clause-image : goal.returns-clause-image
returns-clause-image c = rw (bytes_are c) (image-demo_cart c.args.number)
