use Rattle.std.proofs.Common.{◌≡◌, ◌∙◌, ◌+◌, ℕ, List, length, take, drop, Err, ap, sym, subst, inl, inr, arith}
use Rattle.std.proofs.lemmas.Result.{err_from_is_err_and}
use Rattle.std.specs.Prelude.{option_map}
use Rattle.std.specs.Arc.{arc_value}
use Rattle.md_word.specs.declared.unspell.Unspell.TheVariants.{Rule}
use Rattle.md_fields.specs.Items.{Keeps}
use Rattle.md_fields.proofs.Refusals.{no_rule, same_fault}
use Rattle.fm_port.specs.PortSpelling as fm_spelling
use Rattle.psg_sound.specs.PortSpelling as psg_spelling
use Rattle.vdp_ports.specs.Spelling as vdp_spelling
use Rattle.vdp_ports.specs.Spelling.{vdp_size}
use Rattle.z80_parcel.specs.Parcels.{store_of}
use Rattle.bus_shared.specs.Board.{Board}
use Rattle.bus_shared.specs.Saved.{lines_fields}
use Rattle.bus_shared.specs.Spelling.{IsLength, Spells, StoreInvalidAt, cut, store_length}
use Rattle.bus_shared.proofs.SavedLaws.{falls_of}
use Rattle.bus_shared.proofs.SpellingLaws.{PortsIn, after_rule, ok_not, ports_exit, ports_near, vdp_exit, vdp_near, whole}
use Rattle.bus_shared.proofs.spelling.read.Goals as goal
use Rattle.bus_shared.proofs.spelling.read.Goals.{else-bytes-ne-BOARD_SIZE-via-then-bytes-ne-BOARD_SIZE+else-bytes-ne-FULL_SIZE, else-bytes-ne-BOARD_SIZE-via-else-bytes-ne-BOARD_SIZE}
use Rattle.fm_port.specs.PortSpelling.{port_size as fm_size}
use Rattle.psg_sound.specs.PortSpelling.{port_size as psg_size}

pub following-requires-clause-near : goal.following-requires-clause-near
following-requires-clause-near c = λ place e. omega (arith, vdp_near c.args.at c.args.pal _ place ((c.in-Err-unspell.ensures.rule place).0 (ap Err e)))

pub returns-in-Err-unspell-clause-rule : goal.returns-in-Err-unspell-clause-rule
returns-in-Err-unspell-clause-rule c = λ place e.
    let bytes = c.args.bytes.now in
    let long : IsLength bytes = elim c.else-bytes-ne-BOARD_SIZE.branch [
      | else-bytes-ne-BOARD_SIZE-via-then-bytes-ne-BOARD_SIZE+else-bytes-ne-FULL_SIZE w ↦ inr (w.if-bytes-ne-FULL_SIZE.false)
      | else-bytes-ne-BOARD_SIZE-via-else-bytes-ne-BOARD_SIZE w ↦ inl (w.if-bytes-ne-BOARD_SIZE.false)
    ] in
    let w = after_rule (length c.split_at.result.0.now) c.in-Err-unspell.fault place (sym c.following.ensures ∙ same_fault c.following.result (Rule place) e) in
    let front : c.split_at-2.result.0.now ≡ (cut bytes).vdp = c.split_at-2.ensures.front ∙ ap (take vdp_size) c.split_at.ensures.back in
    vdp_exit c.args.at c.args.pal bytes w.0 place long
    (λ q invalid. c.in-Ok.ensures.right q (subst (λ (l : List ℕ). StoreInvalidAt l q) (sym c.split_at.ensures.front) invalid))
    (subst (λ (l : List ℕ). vdp_spelling.InvalidAt c.args.at c.args.pal l w.0) front ((c.in-Err-unspell.ensures.rule w.0).0 (ap Err w.1)))
    (w.2 ∙ ap (λ (n : ℕ). n + w.0) c.split_at.ensures.front_len)

pub ports_in-requires-clause-length : goal.ports_in-requires-clause-length
ports_in-requires-clause-length c =
    let bytes = c.args.bytes.now in
    let long : IsLength bytes = elim c.else-bytes-ne-BOARD_SIZE.branch [
      | else-bytes-ne-BOARD_SIZE-via-then-bytes-ne-BOARD_SIZE+else-bytes-ne-FULL_SIZE w ↦ inr (w.if-bytes-ne-FULL_SIZE.false)
      | else-bytes-ne-BOARD_SIZE-via-else-bytes-ne-BOARD_SIZE w ↦ inl (w.if-bytes-ne-BOARD_SIZE.false)
    ] in
    elim long [
      | inl e ↦ omega (arith, e, c.split_at.ensures.front_len, c.split_at.ensures.back_len, c.split_at-2.ensures.back_len, c.split_at-2.ensures.front_len)
      | inr e ↦ omega (arith, e, c.split_at.ensures.front_len, c.split_at.ensures.back_len, c.split_at-2.ensures.back_len, c.split_at-2.ensures.front_len)
    ]

pub following-requires-in-Err-ports_in-clause-near : goal.following-requires-in-Err-ports_in-clause-near
following-requires-in-Err-ports_in-clause-near c = λ place e. omega (arith, ports_near c.args.at _ _ _ place (c.in-Err-ports_in.ensures.rule place (ap Err e)))

pub returns-in-Err-ports_in-clause-rule : goal.returns-in-Err-ports_in-clause-rule
returns-in-Err-ports_in-clause-rule c = λ place e.
    let bytes = c.args.bytes.now in
    let long : IsLength bytes = elim c.else-bytes-ne-BOARD_SIZE.branch [
      | else-bytes-ne-BOARD_SIZE-via-then-bytes-ne-BOARD_SIZE+else-bytes-ne-FULL_SIZE w ↦ inr (w.if-bytes-ne-FULL_SIZE.false)
      | else-bytes-ne-BOARD_SIZE-via-else-bytes-ne-BOARD_SIZE w ↦ inl (w.if-bytes-ne-BOARD_SIZE.false)
    ] in
    let w = after_rule (length c.split_at.result.0.now + vdp_size) c.in-Err-ports_in.fault place (sym c.following-in-Err-ports_in.ensures ∙ same_fault c.following-in-Err-ports_in.result (Rule place) e) in
    let front : c.split_at-2.result.0.now ≡ (cut bytes).vdp = c.split_at-2.ensures.front ∙ ap (take vdp_size) c.split_at.ensures.back in
    let back : c.split_at-2.result.1.now ≡ drop vdp_size (drop (store_length bytes) bytes) = c.split_at-2.ensures.back ∙ ap (drop vdp_size) c.split_at.ensures.back in
    ports_exit c.args.at c.args.pal bytes w.0 place long
    (λ q invalid. c.in-Ok.ensures.right q (subst (λ (l : List ℕ). StoreInvalidAt l q) (sym c.split_at.ensures.front) invalid))
    (λ q invalid. ok_not _ (Rule q) ((c.in-Ok-unspell.ensures.rule q).1 (subst (λ (l : List ℕ). vdp_spelling.InvalidAt c.args.at c.args.pal l q) (sym front) invalid)))
    (subst (λ (l : List ℕ). PortsIn c.args.at l w.0) back (c.in-Err-ports_in.ensures.rule w.0 (ap Err w.1)))
    (w.2 ∙ ap (λ (n : ℕ). n + vdp_size + w.0) c.split_at.ensures.front_len)

pub board_of-requires-clause-falls : goal.board_of-requires-clause-falls
board_of-requires-clause-falls c = falls_of c.args.at c.in-Ok-ports_in.ports.lines c.requires c.in-Ok-ports_in.ensures.lines.1

pub returns-in_err-board_of-clause-rule : goal.returns-in_err-board_of-clause-rule
returns-in_err-board_of-clause-rule c =
    let p = err_from_is_err_and c.from_residual.result c.from_residual.ensures.1 in
    λ place e. absurd (no_rule place p.0 (sym p.2) (sym p.1 ∙ e))

pub returns-clause-found : goal.returns-clause-found
returns-clause-found c =
    let bytes = c.args.bytes.now in
    let ports = c.in-Ok-ports_in.ports in
    let front : c.split_at-2.result.0.now ≡ (cut bytes).vdp = c.split_at-2.ensures.front ∙ ap (take vdp_size) c.split_at.ensures.back in
    let back : c.split_at-2.result.1.now ≡ drop vdp_size (drop (store_length bytes) bytes) = c.split_at-2.ensures.back ∙ ap (drop vdp_size) c.split_at.ensures.back in
    let made = c.in_ok-board_of.ensures {u = tt} in (
      subst (Spells c.args.at c.args.pal bytes) (sym made)
          (whole c.args.at c.args.pal bytes (arc_value c.args.recording) (option_map store_of c.in-Ok.parcel) c.in-Ok-unspell.vdp ports.fm.value ports.psg.value ports.lines (record {
            store_is = sym c.split_at.ensures.front ∙ c.in-Ok.ensures.found.0;
            store_fits = c.in-Ok.ensures.found.1;
            vdp_is = subst (λ (l : List ℕ). vdp_spelling.Spells c.args.at c.args.pal l c.in-Ok-unspell.vdp) front c.in-Ok-unspell.ensures.found;
            fm_is = subst (λ (l : List ℕ). fm_spelling.SpellsPort c.args.at (take fm_size l) ports.fm.value) back c.in-Ok-ports_in.ensures.fm;
            psg_is = subst (λ (l : List ℕ). psg_spelling.SpellsPort c.args.at (take psg_size (drop fm_size l)) ports.psg.value) back c.in-Ok-ports_in.ensures.psg;
            lines_are = subst (λ (l : List ℕ). Keeps (lines_fields c.args.at) (drop psg_size (drop fm_size l)) ports.lines) back c.in-Ok-ports_in.ensures.lines.0;
            lines_right = c.in-Ok-ports_in.ensures.lines.1;
          })),
      ap (λ (b : Board). b.recording) made,
    )
