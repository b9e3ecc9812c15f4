use Rattle.std.proofs.Common.{◌++◌, List, ℕ, codes, string_bytes, ap, ◌∙◌}
use Rattle.md_disasm.specs.Digits.{eight_digits, marked_long}
use Rattle.asm_laws.specs.Places.{text_at}
use Rattle.file_commands.proofs.Files.{line_more}
use Rattle.file_commands.proofs.listing.put_line.Goals as goal

pub returns : goal.returns
unfolding marked_long
returns c =
    line_more (string_bytes c.args.list.now) (eight_digits c.args.placed.now.place ++ codes " ")
    (text_at c.args.placed.now.z80 c.args.image.now c.args.placed.now.place c.args.placed.now.address) (codes "\n")
    (string_bytes c.put_marked_long.new.text) (string_bytes c.push_str.new.self) (string_bytes c.push_str-2.new.self)
    c.in_ok-put_marked_long.ensures
    (c.in_ok-push_str.ensures.bytes ∙ ap (λ (l : List ℕ). string_bytes c.put_marked_long.new.text ++ l) (c.as_str.ensures.value ∙ c.in_ok-text.ensures))
    c.in_ok-push_str-2.ensures.bytes
