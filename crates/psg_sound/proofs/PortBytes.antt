-- Laws of the bytes that keep the port.
use Rattle.std.proofs.Common.{◌≡◌, ℕ, ◌+◌, ◌*◌, ◌-◌, Bool, true, false, List, [], ◌∷◌, ◌++◌, length, map, get_or, take, drop, replicate, refl, sym, ap, subst, ◌∙◌, inr, arith}
use Rattle.std.specs.Int.{w16, to_be_bytes}
use Rattle.std.specs.List.{list_all}
use Rattle.std.specs.Prelude.{◌&&◌, nat_le}
use Rattle.std.proofs.lemmas.Bool.{and_parts}
use Rattle.std.proofs.lemmas.List.{length-take, length-drop}
use Rattle.md_fields.specs.Fields.{sizes, spelling}
use Rattle.md_fields.specs.Items.{Keeps}
use Rattle.md_fields.specs.Padding.{are_zeros, padded}
use Rattle.md_fields.specs.Places.{IsBytes, Stand, number_at}
use Rattle.md_fields.proofs.Items.{kept}
use Rattle.md_fields.proofs.Standing.{IsBytes-drop, IsBytes-take}
use Rattle.md_fields.proofs.Values as items
use Rattle.md_fields.proofs.Values.{Table, list_in, not_refused, number_in, read_back, rule_at, values_at}
use Rattle.sound_writes.specs.Entries.{AreFit, entries_bytes}
use Rattle.sound_writes.specs.Keys.{are_kept}
use Rattle.sound_writes.specs.Ports as ports
use Rattle.sound_writes.proofs.Entries.{Layout, entries_count}
use Rattle.sound_writes.proofs.Ports.{Room, all_right, chips_kept, entries_again, entries_back, entries_fit, few_writes, list_bytes, list_right, list_within, list_invalid, right_writes, zeros_after, zeros_kept}
use Rattle.psg_sound.specs.Port.{IsPort}
use Rattle.psg_sound.specs.PortSpelling.{PortInvalidAt, SavedPort, SpellsPort, are_right, are_writes, entries_offset, entries_size, key_of, port_bytes, port_fields, port_size, saved_port_of, write_at, write_fields, writes_at}
use Rattle.psg_sound.specs.declared.write.PsgWrite.{PsgWrite}

-- ---- a write

pub write_layout : Layout 10 write_fields write_at
unfolding sizes spelling Stand
write_layout = record {
  sized = λ w. refl;
  long = λ w. refl;
  stands = λ place bytes rest h. (refl, (refl, (ap (λ (n : ℕ). get_or bytes n 0) (omega arith), subst (λ (n : ℕ). Stand n rest bytes) (omega arith) h)));
  only = λ place bytes w rest h.
      let value : w.value ≡ get_or bytes (place + 9) 0 = h.1.1.0 ∙ ap (λ (n : ℕ). get_or bytes n 0) (omega arith) in
      (λ i. record { key = record { cycle = h.0 i; chip = h.1.0 i }; value = value i });
}

-- a write is kept as it is, and each is right
pub map_same : (ws : List PsgWrite) → map (λ w. w) ws ≡ ws
map_same [] = refl
map_same (w ∷ ws) = λ i. w ∷ map_same ws i

all_right_there : (ws : List PsgWrite) → list_all (λ w. true) ws ≡ true
all_right_there [] = refl
all_right_there (w ∷ ws) = all_right_there ws

pub room : Room 10 entries_size
room = record { few = λ count few. omega (arith, few); unused = λ count. omega arith }

-- ---- a port

pub table : (at : ℕ) → Table port_size (port_fields at)
unfolding sizes values_at
table at = record {
  back = λ values. record { count = number_in values 0; entries = list_in values 1 };
  again = λ s. refl;
  alike = λ s t bytes. refl;
  sized = λ s. refl;
}

-- what is in the bytes
abbrev pub read_port : List ℕ → SavedPort
read_port bytes = record { count = number_at w16 0 bytes; entries = take entries_size (drop entries_offset bytes) }

stands_port : (at : ℕ) (bytes : List ℕ) → length bytes ≡ port_size → Stand 0 (port_fields at (read_port bytes)) bytes
unfolding Stand
stands_port at bytes long = (refl, (refl, long))

keeps_port : (at : ℕ) (bytes : List ℕ) → IsBytes bytes → length bytes ≡ port_size → Keeps (port_fields at) bytes (read_port bytes)
keeps_port at bytes fits long = kept (port_fields at) bytes (read_port bytes) fits (stands_port at bytes long)

entries_long : (bytes : List ℕ) → length bytes ≡ port_size → length (take entries_size (drop entries_offset bytes)) ≡ entries_size
entries_long bytes long = omega (arith, length-take entries_size (drop entries_offset bytes), length-drop entries_offset bytes, long)

-- the rule fails
pub breaks_port : (at : ℕ) (bytes : List ℕ) → IsBytes bytes → length bytes ≡ port_size → are_writes at (read_port bytes) ≡ false → PortInvalidAt at bytes 0
breaks_port at bytes fits long e =
    let s : SavedPort = read_port bytes in
    inr (record { saved = s; keeps = keeps_port at bytes fits long; first = list_invalid 0 entries_size (are_writes at s) s.count s.entries e })

-- the writes of what is kept, whose rule holds, are kept so
port_back : (at : ℕ) (s : SavedPort) → length s.entries ≡ entries_size → IsBytes s.entries → are_writes at s ≡ true → saved_port_of (writes_at s.count s.entries) ≡ s
port_back at s long fits e =
    let count = entries_count write_layout s.count 0 s.entries in
    let back = entries_back write_layout room s.count s.entries long fits (few_writes 10 write_at (are_right at) s.count s.entries e) (zeros_after 10 write_at (are_right at) s.count s.entries e) in
    λ i. record { count = count i; entries = back i }

-- writes are those of what is kept of them
pub writes_again : (ws : List PsgWrite) → AreFit write_fields ws → writes_at (length ws) (padded entries_size (entries_bytes write_fields ws)) ≡ ws
writes_again ws fit = entries_again write_layout room ws fit

-- the writes in the bytes, where the rule holds
pub port_read : (at : ℕ) (bytes : List ℕ) → IsBytes bytes → length bytes ≡ port_size → are_writes at (read_port bytes) ≡ true
    → SpellsPort at bytes (writes_at (number_at w16 0 bytes) (take entries_size (drop entries_offset bytes)))
port_read at bytes fits long e =
    let s : SavedPort = read_port bytes in
    let size = entries_long bytes long in
    let inner : IsBytes s.entries = IsBytes-take entries_size (drop entries_offset bytes) (IsBytes-drop entries_offset bytes fits) in
    let both = read_back (table at) saved_port_of (λ (t : SavedPort). writes_at t.count t.entries) bytes s (port_back at s size inner e) (keeps_port at bytes fits long) (list_right 0 entries_size (are_writes at s) s.count s.entries e) in
    record {
      keeps = both.0;
      right = both.1;
      fit = entries_fit write_layout room s.count s.entries size inner (few_writes 10 write_at (are_right at) s.count s.entries e);
    }

-- the rule of what is spelled
rule_of : (at : ℕ) (bytes : List ℕ) (ws : List PsgWrite) → SpellsPort at bytes ws → are_writes at (saved_port_of ws) ≡ true
rule_of at bytes ws spells = rule_at 0 (port_fields at (saved_port_of ws)) spells.right 0

-- the keys of what is spelled are such as a port holds
pub spelled_right : (at : ℕ) (bytes : List ℕ) (ws : List PsgWrite) → SpellsPort at bytes ws → are_right at ws ≡ true
spelled_right at bytes ws spells =
    ap (are_right at) (sym (writes_again ws spells.fit)) ∙ right_writes 10 write_at (are_right at) (length ws) (saved_port_of ws).entries (rule_of at bytes ws spells)

-- what is spelled is a port
pub port_sound : (at : ℕ) (bytes : List ℕ) (ws : List PsgWrite) → SpellsPort at bytes ws → IsPort ws
port_sound at bytes ws spells = record {
  most = few_writes 10 write_at (are_right at) (length ws) (saved_port_of ws).entries (rule_of at bytes ws spells);
  chips = chips_kept key_of at ws (and_parts _ _ (spelled_right at bytes ws spells)).0;
}

-- bytes spell one port
pub spelled_once : (at : ℕ) (bytes : List ℕ) (ws vs : List PsgWrite) → SpellsPort at bytes ws → SpellsPort at bytes vs → ws ≡ vs
spelled_once at bytes ws vs p q =
    items.spelled_once (table at) saved_port_of (λ (t : SavedPort). writes_at t.count t.entries) bytes ws vs (writes_again ws p.fit) (writes_again vs q.fit) p.keeps q.keeps

-- what is spelled is refused nowhere
pub right_nowhere : (at : ℕ) (bytes : List ℕ) (ws : List PsgWrite) → SpellsPort at bytes ws → (place : ℕ) → PortInvalidAt at bytes place → ⊥
right_nowhere at bytes ws spells = not_refused (table at) bytes (saved_port_of ws) spells.keeps spells.right

-- what a test of so many entries says of those that are there
pub rule_there : (at count : ℕ) (s : SavedPort) (reported : Bool) → count ≡ s.count
    → reported ≡ ports.are_writes 10 write_at (λ ws. list_all (λ w. true) ws && are_kept at (map key_of ws)) count s.entries → are_writes at s ≡ reported
rule_there at count s reported same e =
    let ws = writes_at count s.entries in
    sym (e ∙ ap (λ (b : Bool). nat_le count 1024 && ((b && are_right at ws) && are_zeros (drop (10 * count) s.entries))) (all_right_there ws)
    ∙ ap (λ (n : ℕ). ports.are_writes 10 write_at (are_right at) n s.entries) same)

-- ---- the bytes of a port

-- count, writes and zeros are its bytes
pub parts_are : (ws : List PsgWrite) → to_be_bytes w16 (length ws) ++ (entries_bytes write_fields ws ++ replicate (10 * (1024 - length ws)) 0) ≡ port_bytes ws
parts_are ws = list_bytes write_layout room (are_writes 0 (saved_port_of ws)) ws

-- the rules have no part in them
same_bytes : (at : ℕ) (ws : List PsgWrite) → port_bytes ws ≡ spelling (port_fields at (saved_port_of ws))
unfolding spelling
same_bytes at ws = refl

-- a port whose rules hold is kept by its bytes
pub port_kept : (at : ℕ) (ws : List PsgWrite) → IsPort ws → AreFit write_fields ws → are_right at ws ≡ true → SpellsPort at (port_bytes ws) ws
port_kept at ws port fit right =
    let s : SavedPort = saved_port_of ws in
    let holds : are_writes at s ≡ true =
    all_right 10 write_at (are_right at) s.count s.entries port.most (ap (are_right at) (writes_again ws fit) ∙ right) (zeros_kept write_layout room ws) in
    record {
      keeps = record { within = list_within write_layout room (are_writes at s) ws port.most; all = same_bytes at ws };
      right = list_right 0 entries_size (are_writes at s) s.count s.entries holds;
      fit = fit;
    }
