use Rattle.std.proofs.Common.{◌≡◌, ◌++◌, ◌-◌, ◌∙◌, is_some, vec_len, subst, ap, arith}
use Rattle.bus_shared.specs.Board.{Board, IsBoard}
use Rattle.bus_shared.specs.Spelling as shared
use Rattle.save_state.proofs.WriteLaws.{board_least, cut_there}
use Rattle.save_state.proofs.writing.put_board.Goals as goal
use Rattle.save_state.specs.Layout.{apart_size}

pub cut_off-requires-clause-long : goal.cut_off-requires-clause-long
cut_off-requires-clause-long c = omega (arith, c.spell.ensures.length, board_least (is_some c.shared-2.result.now.store))

pub returns-clause-bytes : goal.returns-clause-bytes
returns-clause-bytes c =
    let b : Board = c.args.machine.now.console.shared in
    let all : c.spell.new.into.items ≡ c.args.into.now.items ++ shared.board_bytes (shared.settled_board c.args.machine.now.at b) =
    c.spell.ensures.bytes ∙ (λ i. c.args.into.now.items ++ shared.board_bytes (shared.settled_board (c.at.ensures i) (c.shared-2.ensures i))) in
    let cut = cut_there c.args.machine.now.at b c.args.into.now.items c.spell.new.into.items (vec_len c.spell.new.into - apart_size) (subst IsBoard c.shared.ensures c.known.ensures) all
    (omega (arith, c.spell.new.into.ok.0, c.spell.ensures.length, board_least (is_some c.shared-2.result.now.store))) in
    c.cut_off.ensures.front ∙ cut.0

pub returns-clause-following : goal.returns-clause-following
returns-clause-following c =
    let b : Board = c.args.machine.now.console.shared in
    let all : c.spell.new.into.items ≡ c.args.into.now.items ++ shared.board_bytes (shared.settled_board c.args.machine.now.at b) =
    c.spell.ensures.bytes ∙ (λ i. c.args.into.now.items ++ shared.board_bytes (shared.settled_board (c.at.ensures i) (c.shared-2.ensures i))) in
    let cut = cut_there c.args.machine.now.at b c.args.into.now.items c.spell.new.into.items (vec_len c.spell.new.into - apart_size) (subst IsBoard c.shared.ensures c.known.ensures) all
    (omega (arith, c.spell.new.into.ok.0, c.spell.ensures.length, board_least (is_some c.shared-2.result.now.store))) in
    c.cut_off.ensures.back ∙ cut.1

pub returns-clause-length : goal.returns-clause-length
returns-clause-length c = omega (arith, c.cut_off.ensures.length, c.spell.ensures.length, ap (λ (x : Board). shared.board_size (is_some x.store)) c.shared-2.ensures)
