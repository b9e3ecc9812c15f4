-- What a saved state keeps of the VDP renderer: its numbers, whatever they are, with their
-- order, their sizes and their rules. What is finished is handed out before a state is kept, the view
-- is filled again with each line, and the region is elsewhere in the state. This project's profile.
use Rattle.std.specs.Prelude.{ℕ, ◌-◌, ◌*◌, ◌%◌, ◌==◌, ◌&&◌, Bool, true, nat_le, nat_lt, List, [], ◌∷◌, drop, None}
use Rattle.md_word.specs.Region.{scanline_length}
use Rattle.md_fields.specs.Fields.{Field, byte, quad, block}
use Rattle.md_fields.specs.Padding.{are_zeros}
use Rattle.md_word.specs.Clock.{line}
use Rattle.md_word.specs.Coding.{flag_number}
use Rattle.vdp_chip.specs.RendererState.{RendererState, undrawn_from}
use Rattle.vdp_chip.specs.Picture.{memory_length}

-- what is kept: the next event, what the sprites have set, and the picture
pub record RendererStateNumbers : Type 0 where
  pub next : ℕ
  pub overflow : ℕ
  pub collision : ℕ
  pub picture : List ℕ

-- what is kept of a chip: a flag is 0 or 1
abbrev pub numbers_of : RendererState → RendererStateNumbers
numbers_of d = record {
  next = d.next;
  overflow = flag_number d.note.overflow;
  collision = flag_number d.note.collision;
  picture = d.picture;
}

-- the chip of a region of which these numbers are kept
abbrev pub renderer_state_of : Bool → RendererStateNumbers → RendererState
renderer_state_of pal n = record {
  next = n.next;
  note = record { overflow = n.overflow == 1; collision = n.collision == 1 };
  has_view = true;
  picture = n.picture;
  frame = None;
  pal = pal;
}

-- the first event of a line from `at` on
abbrev pub is_first : ℕ → ℕ → Bool
is_first next at = (next % line == 0) && (nat_le at next && nat_lt (next - at) line)

-- both are flags
abbrev pub is_note : RendererStateNumbers → Bool
is_note n = nat_le n.overflow 1 && nat_le n.collision 1

-- scanlines after the line of the last cycle below `at` are not drawn
abbrev pub is_picture : ℕ → Bool → List ℕ → Bool
is_picture at pal picture = are_zeros (drop (scanline_length * undrawn_from at pal) picture)

-- the fields in their order, and their rules, by the cycle of the state and by whether that of the picture holds
abbrev pub fields_by : ℕ → Bool → RendererStateNumbers → List Field
fields_by at holds n =
    quad n.next (is_first n.next at)
    ∷ byte n.overflow (is_note n)
    ∷ byte n.collision true
    ∷ block memory_length n.picture holds
    ∷ []

-- the same by the cycle of the state and its region
abbrev pub renderer_state_fields : ℕ → Bool → RendererStateNumbers → List Field
renderer_state_fields at pal n = fields_by at (is_picture at pal n.picture) n
