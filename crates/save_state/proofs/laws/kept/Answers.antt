use Rattle.std.proofs.Common.{ℕ, subst}
use Rattle.m68k_chip.specs.Validity.{Chip68Value}
use Rattle.z80_chip.specs.Validity.{Chip80Value}
use Rattle.bus_shared.specs.Board.{Board}
use Rattle.md_chips.specs.Console.{Console, renderer_state_in}
use Rattle.save_state.proofs.ReadyLaws.{BoardKept, RendererStateKept, FmKept, MainKept, PsgKept, SubKept, renderer_state_in-kept, state_kept}
use Rattle.save_state.specs.States.{settled_console, state_bytes}
use Rattle.save_state.proofs.VersionLaws.{newest_state}
use Rattle.save_state.proofs.laws.kept.Goals as goal

pub returns : goal.returns
returns c = λ ready.
    let m : Console = c.args.machine.now.console in
    let at : ℕ = c.args.machine.now.at in
    let of_main : MainKept at (record { cart = m.cart; state = m.main }) = subst (λ (x : Chip68Value). MainKept at x) c.main_chip.ensures (c.is_read_again.ensures at) in
    let of_sub : SubKept at m.sub = subst (λ (x : Chip80Value). SubKept at x) c.sub_chip.ensures (c.is_read_again-2.ensures at) in
    let of_board : BoardKept at m.shared =
    subst (λ (n : ℕ). BoardKept n m.shared) c.at.ensures (subst (λ (b : Board). BoardKept c.at.result b) c.shared.ensures c.is_read_again-3.ensures) in
    let of_renderer_state : RendererStateKept at (renderer_state_in m) =
    renderer_state_in-kept at c.draw_chip.result.now m c.draw_chip.ensures.next c.draw_chip.ensures.note c.draw_chip.ensures.picture c.draw_chip.ensures.region (c.is_read_again-4.ensures at) in
    let of_fm : FmKept m.fm = subst FmKept c.fm.ensures c.is_read_again-5.ensures in
    let of_psg : PsgKept m.psg = subst PsgKept c.psg.ensures c.is_read_again-6.ensures in
    newest_state m.cart (state_bytes at m) (record { at = at; console = settled_console at m })
    (state_kept at m of_main of_sub of_board of_renderer_state of_fm of_psg c.pal.ensures.one ready)
