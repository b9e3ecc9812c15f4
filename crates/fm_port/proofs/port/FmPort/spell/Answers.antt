use Rattle.std.proofs.Common.{◌≡◌, ◌∙◌, ◌++◌, ◌*◌, ◌-◌, ◌≤◌, List, ℕ, length, map, replicate, ap, append_assoc, arith}
use Rattle.std.specs.Int.{w16, to_be_bytes}
use Rattle.md_fields.specs.Fields.{sizes, spelling}
use Rattle.md_fields.proofs.Standing.{long_as_sized}
use Rattle.sound_writes.specs.Entries.{entries_bytes}
use Rattle.fm_port.specs.Port.{Port}
use Rattle.fm_port.specs.PortSpelling.{number_fields, port_bytes, saved_numbers, saved_write_of, settled_port, write_fields}
use Rattle.fm_port.specs.declared.saved_port.SavedPort.{SavedPort as Numbers}
use Rattle.fm_port.specs.declared.timers.Timers.{Timers}
use Rattle.fm_port.specs.declared.write.FmWrite.{FmWrite}
use Rattle.fm_port.proofs.PortBytes.{number_size, parts_are}
use Rattle.fm_port.proofs.port.FmPort.spell.Goals as goal

-- four parts after what was there
parts : (old one two three four bytes numbers count writes unused : List ℕ) → one ≡ old ++ numbers → two ≡ one ++ count → three ≡ two ++ writes → four ≡ three ++ unused
    → numbers ++ (count ++ (writes ++ unused)) ≡ bytes → four ≡ old ++ bytes
parts old one two three four bytes numbers count writes unused a b d e f =
    e ∙ ap (λ (l : List ℕ). l ++ unused) (d ∙ ap (λ (l : List ℕ). l ++ writes) (b ∙ ap (λ (l : List ℕ). l ++ count) a))
    ∙ append_assoc ((old ++ numbers) ++ count) writes unused ∙ append_assoc (old ++ numbers) count (writes ++ unused) ∙ append_assoc old numbers (count ++ (writes ++ unused))
    ∙ ap (λ (l : List ℕ). old ++ l) f

pub put-requires : goal.put-requires
put-requires c = omega (arith, long_as_sized _ c.fields.ensures.sizes ∙ ap sizes c.fields.ensures.fields ∙ number_size c.args.at c.numbers_of-numbers.result, c.requires.room)

pub put_count-requires : goal.put_count-requires
put_count-requires c =
    omega (arith, long_as_sized _ c.fields.ensures.sizes ∙ ap sizes c.fields.ensures.fields ∙ number_size c.args.at c.numbers_of-numbers.result, c.requires.room, c.put.ensures.length, c.put.ensures.room)

pub put_writes-requires : goal.put_writes-requires
put_writes-requires c =
    let few : length c.as_slice.result.now ≤ 1024 = omega (arith, ap length c.as_slice.ensures.value, c.self.invariant.most) in
    omega (
      arith,
      long_as_sized _ c.fields.ensures.sizes ∙ ap sizes c.fields.ensures.fields ∙ number_size c.args.at c.numbers_of-numbers.result,
      c.requires.room,
      c.put.ensures.length,
      c.put.ensures.room,
      c.put_count.ensures.length,
      c.put_count.ensures.room,
      few,
    )

pub put_zeros-requires-clause-room : goal.put_zeros-requires-clause-room
put_zeros-requires-clause-room c =
    omega (
      arith,
      long_as_sized _ c.fields.ensures.sizes ∙ ap sizes c.fields.ensures.fields ∙ number_size c.args.at c.numbers_of-numbers.result,
      c.requires.room,
      c.put.ensures.length,
      c.put.ensures.room,
      c.put_count.ensures.length,
      c.put_count.ensures.room,
      c.put_writes.ensures.length,
      c.put_writes.ensures.room,
      ap length c.as_slice.ensures.value,
      c.len-count.ensures.value,
      c.self.invariant.most,
    )

pub returns-clause-length : goal.returns-clause-length
returns-clause-length c =
    omega (
      arith,
      long_as_sized _ c.fields.ensures.sizes ∙ ap sizes c.fields.ensures.fields ∙ number_size c.args.at c.numbers_of-numbers.result,
      c.put.ensures.length,
      c.put_count.ensures.length,
      c.put_writes.ensures.length,
      c.put_zeros.ensures.length,
      ap length c.as_slice.ensures.value,
      c.len-count.ensures.value,
      c.self.invariant.most,
    )

pub returns-clause-bytes : goal.returns-clause-bytes
returns-clause-bytes c =
    let ws : List FmWrite = c.self.inside.writes.items in
    let p : Port = record { first = c.self.inside.first; second = c.self.inside.second; timers = c.settle.new.self; writes = ws } in
    let settled : p ≡ settled_port c.args.at c.args.self.now =
    ap (λ (t : Timers). record { first = c.self.inside.first; second = c.self.inside.second; timers = t; writes = ws }) c.settle.ensures.value
    ∙ ap (settled_port c.args.at) c.self.view_is in
    parts c.args.into.now.items _ _ _ _ _ (spelling (number_fields c.args.at (saved_numbers p))) (to_be_bytes w16 (length ws)) (entries_bytes write_fields (map saved_write_of ws)) (replicate (12 * (1024 - length ws)) 0)
    (c.put.ensures.bytes ∙ ap (λ (l : List ℕ). c.args.into.now.items ++ l)
    (ap spelling c.fields.ensures.fields ∙ ap (λ (s : Numbers). spelling (number_fields c.args.at s)) (c.numbers_of-numbers.ensures ws)))
    (c.put_count.ensures.bytes ∙ ap (λ (n : ℕ). c.put.new.into.items ++ to_be_bytes w16 n) c.len-count.ensures.value)
    (c.put_writes.ensures.bytes ∙ ap (λ (l : List FmWrite). c.put_count.new.into.items ++ entries_bytes write_fields (map saved_write_of l)) c.as_slice.ensures.value)
    (c.put_zeros.ensures.bytes ∙ ap (λ (n : ℕ). c.put_writes.new.into.items ++ replicate (12 * (1024 - n)) 0) c.len-count.ensures.value)
    (parts_are c.args.at p ∙ ap port_bytes settled)

pub returns-clause-kept : goal.returns-clause-kept
returns-clause-kept c = c.is_read_again.ensures
