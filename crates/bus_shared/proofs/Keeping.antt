-- A board whose parts may be kept is kept by its bytes.
use Rattle.std.proofs.Common.{◌≡◌, ℕ, ◌^◌, ◌<◌, ◌≤◌, Bool, true, List, arith, refl, inl, inr}
use Rattle.std.proofs.lemmas.Bool.{cases_eq, eq-eqb, eqb-true, le-leb, leb-true, lt-ltb, ltb-true, ne_eqb}
use Rattle.md_word.specs.Clock.{cycle_limit}
use Rattle.md_fields.specs.Fields.{AllHold, AreWithin}
use Rattle.md_fields.specs.Items.{IsRight}
use Rattle.md_fields.proofs.Items.{rules_hold, none_invalid}
use Rattle.md_fields.proofs.Flags.{flag_byte, flag_small}
use Rattle.md_pads.specs.Pad.{Port}
use Rattle.md_pads.specs.Recording.{IsFrame}
use Rattle.vdp_ports.specs.Spelling as vdp_spelling
use Rattle.fm_port.specs.PortSpelling as fm_spelling
use Rattle.psg_sound.specs.PortSpelling as psg_spelling
use Rattle.bus_shared.specs.Board.{Board, IsBoard}
use Rattle.bus_shared.specs.Saved.{is_fall, lines_fields, lines_of}
use Rattle.bus_shared.specs.Spelling.{IsCounted, IsReady, Spells, board_bytes, settled_board}
use Rattle.bus_shared.proofs.SavedLaws.{same_bytes}

-- the falls that a pad counted are before a cycle by their rule
fall_to : (at : ℕ) (port : Port) → IsCounted at port → is_fall at port.count port.fall ≡ true
fall_to at port is =
    elim (cases_eq port.count 0) [
      | inl none ↦ rw none (eq-eqb port.fall 0 (is.none none))
      | inr some ↦ rw (ne_eqb port.count 0 some) (lt-ltb port.fall at (is.some some))
    ]

fall_from : (at : ℕ) (port : Port) → is_fall at port.count port.fall ≡ true → IsCounted at port
fall_from at port holds =
    elim (cases_eq port.count 0) [
      | inl none ↦ record { none = λ _. eqb-true port.fall 0 (rw none at holds); some = λ some. absurd (some none) }
      | inr some ↦ record { none = λ none. absurd (some none); some = λ _. ltb-true port.fall at (rw (ne_eqb port.count 0 some) at holds) }
    ]

fall_small : (at : ℕ) (port : Port) → at ≤ cycle_limit → IsCounted at port → port.fall < 2 ^ 64
fall_small at port small is =
    elim (cases_eq port.count 0) [
      | inl none ↦ omega (arith, is.none none)
      | inr some ↦ omega (arith, is.some some)
    ]

right_to : (at : ℕ) (board : Board) → IsBoard board → IsReady at board → IsRight (lines_fields at) (lines_of board)
unfolding AllHold
right_to at board ok is =
    none_invalid 0 (lines_fields at (lines_of board)) (
      flag_small board.request,
      (
        flag_small board.reset,
        (le-leb board.resets at is.resets, (refl, (refl, (refl, (refl, (lt-ltb board.pads.0 0x1000 is.pads.0, (lt-ltb board.pads.1 0x1000 is.pads.1, (le-leb board.port1.count 4 ok.port1.count, (fall_to at board.port1 is.falls1, (le-leb board.port2.count 4 ok.port2.count, (fall_to at board.port2 is.falls2, tt))))))))))),
      ),
    )

within : (at : ℕ) (board : Board) → at ≤ cycle_limit → IsBoard board → IsReady at board → AreWithin (lines_fields at (lines_of board))
unfolding AreWithin
within at board small ok is = (
  flag_byte board.request,
  (
    flag_byte board.reset,
    (
      omega (arith, small, is.resets),
      (ok.port1.value, (ok.port1.control, (ok.port2.value, (ok.port2.control, (omega (arith, is.pads.0), (omega (arith, is.pads.1), (omega (arith, ok.port1.count), (fall_small at board.port1 small is.falls1, (omega (arith, ok.port2.count), (fall_small at board.port2 small is.falls2, tt)))))))))),
    ),
  ),
)

pub board_spelled : (at : ℕ) (board : Board) → at ≤ cycle_limit → IsBoard board → IsReady at board
    → vdp_spelling.Spells at board.vdp.pal (vdp_spelling.vdp_bytes (settled_board at board).vdp) (settled_board at board).vdp
    → fm_spelling.SpellsPort at (fm_spelling.port_bytes (settled_board at board).fm) (settled_board at board).fm
    → psg_spelling.SpellsPort at (psg_spelling.port_bytes board.psg) board.psg
    → Spells at board.vdp.pal (board_bytes (settled_board at board)) (settled_board at board)
board_spelled at board small ok is vdp fm psg = record {
  all = refl;
  store = ok.store;
  vdp = vdp;
  fm = fm;
  psg = psg;
  lines = record { within = within at board small ok is; all = same_bytes 0 at (lines_of board) };
  right = right_to at board ok is;
}

-- of a board that bytes keep the lines and the pads have their rules
pub spelled_lines : (at : ℕ) (pal : Bool) (bytes : List ℕ) (board : Board) → Spells at pal bytes board
    → (board.resets ≤ at) × IsFrame board.pads × IsCounted at board.port1 × IsCounted at board.port2
unfolding AllHold
spelled_lines at pal bytes board p =
    let h0 = rules_hold 0 (lines_fields at (lines_of board)) p.right in
    let h3 = h0.1.1.1 in
    let h7 = h3.1.1.1.1 in
    let h9 = h7.1.1 in
    (leb-true board.resets at h0.1.1.0, (ltb-true board.pads.0 0x1000 h7.0, ltb-true board.pads.1 0x1000 h7.1.0), fall_from at board.port1 h9.1.0, fall_from at board.port2 h9.1.1.1.0)
