use Rattle.std.proofs.Common.{◌≡◌, ◌∙◌, ℕ, List, map, true, subst}
use Rattle.sound_writes.specs.Entries.{AreFit}
use Rattle.sound_writes.specs.Keys.{are_kept}
use Rattle.psg_sound.specs.PortSpelling.{SpellsPort, key_of, port_bytes, write_fields}
use Rattle.psg_sound.specs.declared.write.PsgWrite.{PsgWrite}
use Rattle.psg_sound.proofs.PortBytes.{map_same, port_kept}
use Rattle.psg_sound.proofs.port.PsgPort.is_read_again.Goals as goal

pub returns : goal.returns
returns c =
    let ws : List PsgWrite = c.self.inside.writes.items in
    let fit : AreFit write_fields ws = subst (AreFit write_fields) (map_same _ ∙ c.as_slice.ensures.value) c.known_writes.ensures in
    subst (λ (l : List PsgWrite). (at : ℕ) → are_kept at (map key_of l) ≡ true → SpellsPort at (port_bytes l) l) c.self.view_is (λ at kept. port_kept at ws c.self.invariant fit kept)
