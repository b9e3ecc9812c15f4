-- Which instructions of the Z80 have a text of their own.
use Rattle.std.specs.Prelude.{Bool, codes}
use Rattle.std.specs.Str.{bytes_eq}
use Rattle.z80_decode.specs.declared.op80.Op80.{Op80}
use Rattle.md_disasm.specs.Rows80.{row_of}

-- its text is a directive's, of its bytes
abbrev pub is_db : Op80 → Bool
is_db op = bytes_eq (row_of op 0).name (codes "db")
