use Rattle.std.proofs.Common.{◌≡◌, sym, subst, List, ℕ}
use Rattle.std.specs.Prelude.{IfErr, OnOk}
use Rattle.md_rollback.specs.declared.line.Line.TheVariants.{Press}
use Rattle.md_rollback.specs.declared.line.Player.{Player}
use Rattle.md_rollback.specs.Following.{Follows}
use Rattle.md_rollback.specs.Scripts.{IsRefusedInput, Obeys, Script}
use Rattle.md_rollback.proofs.script.press.Goals as goal

pub returns-in-Local-clause-obeyed : goal.returns-in-Local-clause-obeyed
returns-in-Local-clause-obeyed g c =
    let s = c.args.session.now in
    subst (λ (p : Player). OnOk c.press_local.result ((cart : List ℕ) (old : Script) → Follows cart s old
    → (new : Script) × Obeys s.window old (Press p c.args.frame c.args.buttons) new × Follows cart c.press_local.new.session new)) (sym c.in-Local.is) c.press_local.ensures.obeyed

pub returns-in-Local-clause-refused : goal.returns-in-Local-clause-refused
returns-in-Local-clause-refused g c =
    let s = c.args.session.now in
    subst (λ (p : Player). IfErr c.press_local.result (λ fault. (c.press_local.new.session ≡ s) × ((cart : List ℕ) (old : Script) → Follows cart s old
    → IsRefusedInput old p c.args.frame c.args.buttons fault))) (sym c.in-Local.is) c.press_local.ensures.refused

pub returns-in-Remote-clause-obeyed : goal.returns-in-Remote-clause-obeyed
returns-in-Remote-clause-obeyed g c =
    let s = c.args.session.now in
    subst (λ (p : Player). OnOk c.press_remote.result ((cart : List ℕ) (old : Script) → Follows cart s old
    → (new : Script) × Obeys s.window old (Press p c.args.frame c.args.buttons) new × Follows cart c.press_remote.new.session new)) (sym c.in-Remote.is) c.press_remote.ensures.obeyed

pub returns-in-Remote-clause-refused : goal.returns-in-Remote-clause-refused
returns-in-Remote-clause-refused g c =
    let s = c.args.session.now in
    subst (λ (p : Player). IfErr c.press_remote.result (λ fault. (c.press_remote.new.session ≡ s) × ((cart : List ℕ) (old : Script) → Follows cart s old
    → IsRefusedInput old p c.args.frame c.args.buttons fault))) (sym c.in-Remote.is) c.press_remote.ensures.refused
