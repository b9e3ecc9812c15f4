use Rattle.std.proofs.Common.{◌≡◌, ◌∙◌, ◌++◌, ◌*◌, ◌-◌, List, ℕ, length, replicate, ap, append_assoc}
use Rattle.std.specs.Int.{w16, to_be_bytes}
use Rattle.sound_writes.specs.Entries.{entries_bytes}
use Rattle.psg_sound.specs.PortSpelling.{port_bytes, write_fields}
use Rattle.psg_sound.specs.declared.write.PsgWrite.{PsgWrite}
use Rattle.psg_sound.proofs.PortBytes.{map_same, parts_are}
use Rattle.psg_sound.proofs.port.PsgPort.spell.Goals as goal

-- three parts after what was there
parts : (old one two three bytes count writes unused : List ℕ) → one ≡ old ++ count → two ≡ one ++ writes → three ≡ two ++ unused
    → count ++ (writes ++ unused) ≡ bytes → three ≡ old ++ bytes
parts old one two three bytes count writes unused a b d e =
    d ∙ ap (λ (l : List ℕ). l ++ unused) (b ∙ ap (λ (l : List ℕ). l ++ writes) a)
    ∙ append_assoc (old ++ count) writes unused ∙ append_assoc old count (writes ++ unused) ∙ ap (λ (l : List ℕ). old ++ l) e

pub returns-clause-bytes : goal.returns-clause-bytes
returns-clause-bytes c =
    let ws : List PsgWrite = c.self.inside.writes.items in
    parts c.args.into.now.items _ _ _ _ (to_be_bytes w16 (length ws)) (entries_bytes write_fields ws) (replicate (10 * (1024 - length ws)) 0)
    (c.put_count.ensures.bytes ∙ ap (λ (n : ℕ). c.args.into.now.items ++ to_be_bytes w16 n) c.len-count.ensures.value)
    (c.put_writes.ensures.bytes ∙ ap (λ (l : List PsgWrite). c.put_count.new.into.items ++ entries_bytes write_fields l) (map_same _ ∙ c.as_slice.ensures.value))
    (c.put_zeros.ensures.bytes ∙ ap (λ (n : ℕ). c.put_writes.new.into.items ++ replicate (10 * (1024 - n)) 0) c.len-count.ensures.value)
    (parts_are ws ∙ ap port_bytes c.self.view_is)

pub returns-clause-kept : goal.returns-clause-kept
returns-clause-kept c = c.is_read_again.ensures
