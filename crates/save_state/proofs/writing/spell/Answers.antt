use Rattle.std.proofs.Common.{◌∙◌, ◌++◌, length, ap, arith}
use Rattle.m68k_chip.specs.Validity.{Chip68Value}
use Rattle.m68k_chip.specs.Spelling as main
use Rattle.md_chips.specs.Console.{Console}
use Rattle.save_state.proofs.WriteLaws.{after_long, own_room, owner_room, written}
use Rattle.save_state.proofs.writing.spell.Goals as goal

pub put_board-requires-clause-room : goal.put_board-requires-clause-room
put_board-requires-clause-room c =
    omega (arith, c.requires.room, c.put_head.ensures.length, c.put_head.ensures.room, c.spell.ensures.length, c.spell.ensures.room, c.put_sub.ensures.length, c.put_sub.ensures.room, own_room c.args.machine.now.console c.put_sub.ensures.few)

pub put_sound-requires-clause-following : goal.put_sound-requires-clause-following
put_sound-requires-clause-following c =
    ap length (c.as_slice.ensures.value ∙ c.put_board.ensures.following) ∙ after_long c.args.machine.now.at c.args.machine.now.console.shared c.put_board.ensures.board

pub put_sound-requires-clause-room : goal.put_sound-requires-clause-room
put_sound-requires-clause-room c =
    omega (arith, c.requires.room, c.put_head.ensures.length, c.put_head.ensures.room, c.spell.ensures.length, c.spell.ensures.room, c.put_sub.ensures.length, c.put_sub.ensures.room, c.put_board.ensures.length, c.put_board.ensures.room, c.spell-2.ensures.length, c.spell-2.ensures.room, own_room c.args.machine.now.console c.put_sub.ensures.few)

pub returns-clause-bytes : goal.returns-clause-bytes
returns-clause-bytes c =
    let m : Console = c.args.machine.now.console in
    written c.args.machine.now.at m c.args.digest.now c.as_slice.result.now c.draw_chip.result.now
    c.args.into.now.items c.put_head.new.into.items c.spell.new.into.items c.put_sub.new.into.items c.put_board.new.into.items c.spell-2.new.into.items c.put_sound.new.into.items
    c.put_board.ensures.board c.requires.digest (c.as_slice.ensures.value ∙ c.put_board.ensures.following)
    c.draw_chip.ensures.next c.draw_chip.ensures.note c.draw_chip.ensures.picture
    c.put_head.ensures.bytes
    (c.spell.ensures.bytes ∙ ap (λ (x : Chip68Value). c.put_head.new.into.items ++ main.chip_bytes x.state) c.main_chip.ensures)
    c.put_sub.ensures.bytes c.put_board.ensures.bytes c.spell-2.ensures.bytes c.put_sound.ensures.bytes

pub returns-clause-length : goal.returns-clause-length
returns-clause-length c = λ owner.
    omega (arith, c.put_head.ensures.length, c.spell.ensures.length, c.put_sub.ensures.length, c.put_board.ensures.length, c.spell-2.ensures.length, c.put_sound.ensures.length, owner_room c.args.machine.now.console c.put_sub.ensures.sub owner)
