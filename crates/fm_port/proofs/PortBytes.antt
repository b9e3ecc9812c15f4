-- Laws of the bytes that keep the port.
use Rattle.std.proofs.Common.{◌≡◌, ℕ, ◌+◌, ◌*◌, ◌-◌, ◌^◌, ◌<◌, ◌≤◌, ◌/◌, ◌%◌, Bool, true, false, cond, eqb, List, [], ◌∷◌, ◌++◌, length, get_or, map, take, drop, replicate, Some, None, refl, sym, ap, subst, ◌∙◌, inr, arith}
use Rattle.std.specs.Prelude.{All, min, ◌&&◌, ◌||◌, nat_le, nat_lt}
use Rattle.std.specs.List.{list_all}
use Rattle.std.specs.Int.{w16, to_be_bytes}
use Rattle.std.proofs.Math.Bridge.{le_prop}
use Rattle.std.proofs.Math.Nat.{min-eq_left}
use Rattle.std.proofs.lemmas.Bool.{and_parts, eqb-true, leb-true, ltb-true}
use Rattle.std.proofs.lemmas.List.{length-take, length-drop, length-map}
use Rattle.std.proofs.lemmas.List.Elements.{All-cons, All-head, All-nil, All-tail}
use Rattle.md_word.specs.Clock.{cycle_limit}
use Rattle.md_word.specs.Coding.{flag_number}
use Rattle.md_word.proofs.Below.{bit_below}
use Rattle.md_word.specs.declared.key.Key.{Key}
use Rattle.md_fields.specs.Fields.{AreWithin, AllHold, Field, first_invalid, sizes, spelling}
use Rattle.md_fields.specs.Items.{IsRight, Keeps}
use Rattle.md_fields.specs.Padding.{are_zeros, padded}
use Rattle.md_fields.specs.Places.{IsBytes, Stand, number_at}
use Rattle.md_fields.proofs.Flags.{flag_again, flag_back, flag_small}
use Rattle.md_fields.proofs.Items.{kept, none_invalid}
use Rattle.md_fields.proofs.Standing.{IsBytes-drop, IsBytes-take}
use Rattle.md_fields.proofs.Values as items
use Rattle.md_fields.proofs.Values.{Table, list_in, not_refused, number_in, read_back, rule_at, values_at}
use Rattle.sound_writes.specs.Entries.{AreFit, entries_bytes}
use Rattle.sound_writes.specs.Keys.{fits}
use Rattle.sound_writes.specs.Ports as ports
use Rattle.sound_writes.proofs.Entries.{Layout, entries_count}
use Rattle.sound_writes.proofs.Ports.{Room, all_right, chips_kept, entries_again, entries_back, entries_fit, few_writes, list_bytes, list_right, list_within, list_invalid, right_writes, zeros_after, zeros_kept}
use Rattle.md_fields.proofs.Tables.{within_append, first_following, first_front, spelling_append}
use Rattle.fm_port.specs.Port.{IsPort, Port}
use Rattle.fm_port.specs.PortSpelling.{PortInvalidAt, SavedPort, SpellsPort, are_right, are_saved_timers, are_writes, at_most_2, count_offset, entries_offset, entries_size, is_next, is_write, key_of, list_fields, number_fields, port_bytes, port_fields, port_from, port_size, port_with, saved_numbers, saved_port_of, saved_write_of, write_at, write_fields, write_from, writes_at, writes_from}
use Rattle.fm_port.specs.declared.saved_port.SavedPort.{SavedPort as Numbers}
use Rattle.fm_port.specs.declared.saved_write.SavedWrite.{SavedWrite}
use Rattle.fm_port.specs.declared.write.FmWrite.{FmWrite}

-- ---- a write

pub write_layout : Layout 12 write_fields write_at
unfolding sizes spelling Stand
write_layout = record {
  sized = λ w. refl;
  long = λ w. refl;
  stands = λ place bytes rest h.
      let at = λ (m n : ℕ) (e : m ≡ n). ap (λ (k : ℕ). get_or bytes k 0) e in (
        refl,
        (
          refl,
          (
            at (place + 9) (place + 8 + 1) (omega arith),
            (
              at (place + 10) (place + 8 + 1 + 1) (omega arith),
              (
                at (place + 11) (place + 8 + 1 + 1 + 1) (omega arith),
                subst (λ (n : ℕ). Stand n rest bytes) (omega arith) h,
              ),
            ),
          ),
        ),
      );
  only = λ place bytes w rest h.
      let port : w.port ≡ get_or bytes (place + 9) 0 = h.1.1.0 ∙ ap (λ (n : ℕ). get_or bytes n 0) (omega arith) in
      let register : w.register ≡ get_or bytes (place + 10) 0 = h.1.1.1.0 ∙ ap (λ (n : ℕ). get_or bytes n 0) (omega arith) in
      let value : w.value ≡ get_or bytes (place + 11) 0 = h.1.1.1.1.0 ∙ ap (λ (n : ℕ). get_or bytes n 0) (omega arith) in
      (λ i. record { cycle = h.0 i; chip = h.1.0 i; port = port i; register = register i; value = value i });
}

pub room : Room 12 entries_size
room = record { few = λ count few. omega (arith, few); unused = λ count. omega arith }

abbrev made : (key : Key) (port register value : ℕ) → port ≤ 2 → FmWrite
made key port register value p = record { key = key; port = port; register = register; value = value; port_in_range = p }

same_port : (key : Key) (register value m n : ℕ) (p : m ≤ 2) (q : n ≤ 2) → m ≡ n
    → made key m register value p ≡ made key n register value q
same_port key register value m n p q e =
    subst (λ (k : ℕ). (r : k ≤ 2) → made key m register value p ≡ made key k register value r) e
    (λ r i. record { key = key; port = m; register = register; value = value; port_in_range = le_prop p r i }) q

write_again : (w : FmWrite) → write_from (saved_write_of w) ≡ w
write_again w = same_port w.key w.register w.value (min w.port 2) w.port (at_most_2 w.port) w.port_in_range (min-eq_left w.port_in_range)

writes_again : (ws : List FmWrite) → map write_from (map saved_write_of ws) ≡ ws
writes_again [] = refl
writes_again (w ∷ ws) = λ i. write_again w i ∷ writes_again ws i

few_by : (below : Bool) (port : ℕ) (rest : Bool) → nat_lt port 2 ≡ below → (below || ((eqb port 2) && rest)) ≡ true → port ≤ 2
few_by true port rest is e = omega (arith, ltb-true port 2 is)
few_by false port rest is e = omega (arith, eqb-true port 2 (and_parts _ _ e).0)

-- the numbers of what can be a write are those of the write
saved_again : (w : SavedWrite) → is_write w ≡ true → saved_write_of (write_from w) ≡ w
saved_again w e =
    let few : min w.port 2 ≡ w.port = min-eq_left (few_by (nat_lt w.port 2) w.port _ refl e) in
    λ i. record { cycle = w.cycle; chip = w.chip; port = few i; register = w.register; value = w.value }

all_again : (ws : List SavedWrite) → list_all is_write ws ≡ true → map saved_write_of (map write_from ws) ≡ ws
all_again [] e = refl
all_again (w ∷ ws) e = let p = and_parts _ _ e in λ i. saved_again w p.0 i ∷ all_again ws p.1 i

-- ---- a port

pub number_size : (at : ℕ) (s : Numbers) → sizes (number_fields at s) ≡ count_offset
unfolding sizes
number_size at s = refl

pub table : (at : ℕ) → Table port_size (port_fields at)
unfolding sizes values_at
table at = record {
  back = λ values. record {
    numbers = record {
      first = number_in values 0;
      second = number_in values 1;
      high_a = number_in values 2;
      low_a = number_in values 3;
      number_b = number_in values 4;
      control = number_in values 5;
      run_a = number_in values 6;
      next_a = number_in values 7;
      run_b = number_in values 8;
      next_b = number_in values 9;
      flag_a = number_in values 10;
      flag_b = number_in values 11;
    };
    count = number_in values 12;
    entries = list_in values 13;
  };
  again = λ s. refl;
  alike = λ s t bytes. refl;
  sized = λ s. refl;
}

-- what is in the bytes beside latches and timers
abbrev pub count_in : List ℕ → ℕ
count_in bytes = number_at w16 count_offset bytes

abbrev pub entries_in : List ℕ → List ℕ
entries_in bytes = take entries_size (drop entries_offset bytes)

abbrev pub read_port : List ℕ → Numbers → SavedPort
read_port bytes s = record { numbers = s; count = count_in bytes; entries = entries_in bytes }

-- the numbers are at the start of the bytes
abbrev pub IsHead : List ℕ → Numbers → Type 0
IsHead bytes s = (at : ℕ) (rest : List Field) → Stand count_offset rest bytes → Stand 0 (number_fields at s ++ rest) bytes

list_stands : (at : ℕ) (bytes : List ℕ) (s : Numbers) → length bytes ≡ port_size → Stand count_offset (list_fields at (read_port bytes s)) bytes
unfolding Stand
list_stands at bytes s long = (refl, (refl, long))

keeps_port : (at : ℕ) (bytes : List ℕ) (s : Numbers) → IsBytes bytes → length bytes ≡ port_size → IsHead bytes s → Keeps (port_fields at) bytes (read_port bytes s)
keeps_port at bytes s fits long head =
    kept (port_fields at) bytes (read_port bytes s) fits (head at (list_fields at (read_port bytes s)) (list_stands at bytes s long))

-- a rule of a number fails, and that of the writes
pub breaks_number : (at : ℕ) (bytes : List ℕ) (s : Numbers) (place : ℕ) → IsBytes bytes → length bytes ≡ port_size → IsHead bytes s
    → first_invalid 0 (number_fields at s) ≡ Some place → PortInvalidAt at bytes place
breaks_number at bytes s place fits long head e =
    inr (record {
      saved = read_port bytes s;
      keeps = keeps_port at bytes s fits long head;
      first = first_front 0 place (number_fields at s) (list_fields at (read_port bytes s)) e;
    })

following : (at : ℕ) (s : SavedPort) → first_invalid 0 (number_fields at s.numbers) ≡ None → first_invalid 0 (port_fields at s) ≡ first_invalid count_offset (list_fields at s)
following at s e =
    first_following 0 (number_fields at s.numbers) (list_fields at s) e ∙ ap (λ (n : ℕ). first_invalid n (list_fields at s)) (omega (arith, number_size at s.numbers))

pub breaks_writes : (at : ℕ) (bytes : List ℕ) (s : Numbers) → IsBytes bytes → length bytes ≡ port_size → IsHead bytes s
    → first_invalid 0 (number_fields at s) ≡ None → are_writes at (count_in bytes) (entries_in bytes) ≡ false → PortInvalidAt at bytes count_offset
breaks_writes at bytes s fits long head none e =
    inr (record {
      saved = read_port bytes s;
      keeps = keeps_port at bytes s fits long head;
      first = following at (read_port bytes s) none ∙ list_invalid count_offset entries_size (are_writes at (count_in bytes) (entries_in bytes)) (count_in bytes) (entries_in bytes) e;
    })

-- ---- what the rules say

-- the numbers of a timer: its run, its next overflow and its flag
record TimerRules (at longest runs overflow raised : ℕ) : Type 0 where
  run : runs ≤ 1
  next : is_next at longest runs overflow ≡ true
  flag : raised ≤ 1

rules_a : (at : ℕ) (s : SavedPort) → IsRight (port_fields at) s → TimerRules at 1032192 s.numbers.run_a s.numbers.next_a s.numbers.flag_a
rules_a at s right =
    let rule = rule_at 0 (port_fields at s) right in
    let run = eqb-true s.numbers.run_a (s.numbers.control % 2) (rule 6) in
    record { run = omega (arith, run); next = rule 7; flag = leb-true s.numbers.flag_a 1 (rule 10) }

rules_b : (at : ℕ) (s : SavedPort) → IsRight (port_fields at) s → TimerRules at 4128768 s.numbers.run_b s.numbers.next_b s.numbers.flag_b
rules_b at s right =
    let rule = rule_at 0 (port_fields at s) right in
    let run = eqb-true s.numbers.run_b (s.numbers.control / 2 % 2) (rule 8) in
    record { run = omega (arith, run); next = rule 9; flag = leb-true s.numbers.flag_b 1 (rule 11) }

rule_of : (at : ℕ) (s : SavedPort) → IsRight (port_fields at) s → are_writes at s.count s.entries ≡ true
rule_of at s right = rule_at 0 (port_fields at s) right 12

-- what is kept, whose rules hold, is that of its port
port_back : (at : ℕ) (s : SavedPort) → length s.entries ≡ entries_size → IsBytes s.entries → IsRight (port_fields at) s → saved_port_of (port_from s) ≡ s
port_back at s long fits right =
    let n : Numbers = s.numbers in
    let a = rules_a at s right in
    let b = rules_b at s right in
    let e = rule_of at s right in
    let ws = writes_at s.count s.entries in
    let again : map saved_write_of (map write_from ws) ≡ ws = all_again ws (and_parts _ _ (right_writes 12 write_at (are_right at) s.count s.entries e)).0 in
    let count : length (map write_from ws) ≡ s.count = length-map ws write_from ∙ entries_count write_layout s.count 0 s.entries in
    let back : padded entries_size (entries_bytes write_fields (map saved_write_of (map write_from ws))) ≡ s.entries =
    ap (λ (l : List SavedWrite). padded entries_size (entries_bytes write_fields l)) again
    ∙ entries_back write_layout room s.count s.entries long fits (few_writes 12 write_at (are_right at) s.count s.entries e) (zeros_after 12 write_at (are_right at) s.count s.entries e) in
    λ i. record {
      numbers = record n { run_a = flag_back n.run_a a.run i; run_b = flag_back n.run_b b.run i; flag_a = flag_back n.flag_a a.flag i; flag_b = flag_back n.flag_b b.flag i };
      count = count i;
      entries = back i;
    }

-- the numbers of writes are those of what is kept of them, and so are the writes
numbers_again : (ws : List FmWrite) → AreFit write_fields (map saved_write_of ws) → writes_at (length ws) (padded entries_size (entries_bytes write_fields (map saved_write_of ws))) ≡ map saved_write_of ws
numbers_again ws fit =
    ap (λ (n : ℕ). writes_at n (padded entries_size (entries_bytes write_fields (map saved_write_of ws)))) (sym (length-map ws saved_write_of))
    ∙ entries_again write_layout room (map saved_write_of ws) fit

list_again : (ws : List FmWrite) → AreFit write_fields (map saved_write_of ws) → writes_from (length ws) (padded entries_size (entries_bytes write_fields (map saved_write_of ws))) ≡ ws
list_again ws fit = ap (map write_from) (numbers_again ws fit) ∙ writes_again ws

-- a port is that of what is kept of it
port_again : (p : Port) → AreFit write_fields (map saved_write_of p.writes) → port_from (saved_port_of p) ≡ p
port_again p fit = λ i. record p {
  timers = record p.timers {
    a = record p.timers.a { run = flag_again p.timers.a.run i; flag = flag_again p.timers.a.flag i };
    b = record p.timers.b { run = flag_again p.timers.b.run i; flag = flag_again p.timers.b.flag i };
  };
  writes = list_again p.writes fit i;
}

-- ---- what is read

pub port_read : (at : ℕ) (bytes : List ℕ) (s : Numbers) → IsBytes bytes → length bytes ≡ port_size → IsHead bytes s
    → first_invalid 0 (number_fields at s) ≡ None → are_writes at (count_in bytes) (entries_in bytes) ≡ true
    → SpellsPort at bytes (port_with s (writes_from (count_in bytes) (entries_in bytes)))
port_read at bytes s fits long head none e =
    let k : SavedPort = read_port bytes s in
    let size : length k.entries ≡ entries_size = omega (arith, length-take entries_size (drop entries_offset bytes), length-drop entries_offset bytes, long) in
    let inner : IsBytes k.entries = IsBytes-take entries_size (drop entries_offset bytes) (IsBytes-drop entries_offset bytes fits) in
    let right : IsRight (port_fields at) k = following at k none ∙ list_right count_offset entries_size (are_writes at k.count k.entries) k.count k.entries e in
    let both = read_back (table at) saved_port_of port_from bytes k (port_back at k size inner right) (keeps_port at bytes s fits long head) right in
    let fit : AreFit write_fields (writes_at k.count k.entries) = entries_fit write_layout room k.count k.entries size inner (few_writes 12 write_at (are_right at) k.count k.entries e) in
    record {
      keeps = both.0;
      right = both.1;
      fit = subst (AreFit write_fields) (sym (all_again (writes_at k.count k.entries) (and_parts _ _ (right_writes 12 write_at (are_right at) k.count k.entries e)).0)) fit;
    }

next_by : (runs : Bool) (at longest next : ℕ) → at ≤ cycle_limit → longest ≤ 4128768 → cond runs (nat_le at next && nat_lt (next - at) longest) (eqb next 0) ≡ true → next ≤ 2 ^ 51
next_by true at longest next far few e = omega (arith, far, few, ltb-true (next - at) longest (and_parts _ _ e).1)
next_by false at longest next far few e = omega (arith, eqb-true next 0 e)

next_few : (at longest run next : ℕ) → at ≤ cycle_limit → longest ≤ 4128768 → is_next at longest run next ≡ true → next ≤ 2 ^ 51
next_few at longest run next far few e = next_by (eqb run 1) at longest next far few e

-- the writes of what is spelled are right
pub spelled_right : (at : ℕ) (bytes : List ℕ) (p : Port) → SpellsPort at bytes p → are_right at (map saved_write_of p.writes) ≡ true
spelled_right at bytes p spells =
    let s : SavedPort = saved_port_of p in
    ap (are_right at) (sym (numbers_again p.writes spells.fit)) ∙ right_writes 12 write_at (are_right at) s.count s.entries (rule_of at s spells.right)

-- a write of a processor is one whose numbers are
own_chips : (ws : List FmWrite) → All (λ w. (key_of w).chip < 2) (map saved_write_of ws) → All (λ w. w.key.chip < 2) ws
own_chips [] h = All-nil (λ (w : FmWrite). w.key.chip < 2)
own_chips (w ∷ ws) h =
    All-cons (λ (v : FmWrite). v.key.chip < 2) w ws (All-head (λ v. (key_of v).chip < 2) (saved_write_of w) (map saved_write_of ws) h) (own_chips ws (All-tail (λ v. (key_of v).chip < 2) (saved_write_of w) (map saved_write_of ws) h))

-- what is spelled is a port
pub port_sound : (at : ℕ) (bytes : List ℕ) (p : Port) → at ≤ cycle_limit → SpellsPort at bytes p → IsPort p
port_sound at bytes p far spells =
    let s : SavedPort = saved_port_of p in
    record {
      timers = record {
        a = record { next = next_few at 1032192 (flag_number p.timers.a.run) p.timers.a.next far (omega arith) (rules_a at s spells.right).next };
        b = record { next = next_few at 4128768 (flag_number p.timers.b.run) p.timers.b.next far (omega arith) (rules_b at s spells.right).next };
      };
      most = few_writes 12 write_at (are_right at) s.count s.entries (rule_of at s spells.right);
      chips = own_chips p.writes (chips_kept key_of at (map saved_write_of p.writes) (and_parts _ _ (and_parts _ _ (spelled_right at bytes p spells)).1).0);
    }

-- bytes spell one port
pub spelled_once : (at : ℕ) (bytes : List ℕ) (p q : Port) → SpellsPort at bytes p → SpellsPort at bytes q → p ≡ q
spelled_once at bytes p q a b = items.spelled_once (table at) saved_port_of port_from bytes p q (port_again p a.fit) (port_again q b.fit) a.keeps b.keeps

-- what is spelled is refused nowhere
pub right_nowhere : (at : ℕ) (bytes : List ℕ) (p : Port) → SpellsPort at bytes p → (place : ℕ) → PortInvalidAt at bytes place → ⊥
right_nowhere at bytes p spells = not_refused (table at) bytes (saved_port_of p) spells.keeps spells.right

-- ---- the bytes of a port

-- numbers, count, writes and zeros are its bytes
pub parts_are : (at : ℕ) (p : Port)
    → spelling (number_fields at (saved_numbers p)) ++ (to_be_bytes w16 (length p.writes) ++ (entries_bytes write_fields (map saved_write_of p.writes) ++ replicate (12 * (1024 - length p.writes)) 0))
    ≡ port_bytes p
unfolding spelling
parts_are at p =
    let es : List SavedWrite = map saved_write_of p.writes in
    let count : length es ≡ length p.writes = length-map p.writes saved_write_of in
    ap (λ (l : List ℕ). spelling (number_fields at (saved_numbers p)) ++ l)
    (ap (λ (n : ℕ). to_be_bytes w16 n ++ (entries_bytes write_fields es ++ replicate (12 * (1024 - n)) 0)) (sym count)
    ∙ list_bytes write_layout room (are_writes 0 (length p.writes) (saved_port_of p).entries) es
    ∙ ap (λ (n : ℕ). spelling (ports.list_fields entries_size (are_writes 0 (length p.writes) (saved_port_of p).entries) n (saved_port_of p).entries)) count)
    ∙ sym (spelling_append (number_fields 0 (saved_numbers p)) (list_fields 0 (saved_port_of p)))

-- ---- a port whose rules hold is kept by its bytes

-- its numbers fit their fields
pub numbers_within : (at : ℕ) (n : Numbers) → n.first < 2 ^ 8 → n.second < 2 ^ 8 → n.high_a < 2 ^ 8 → n.low_a < 2 ^ 8 → n.number_b < 2 ^ 8 → n.control < 2 ^ 8
    → n.next_a < 2 ^ 64 → n.next_b < 2 ^ 64 → n.run_a ≤ 1 → n.run_b ≤ 1 → n.flag_a ≤ 1 → n.flag_b ≤ 1 → AreWithin (number_fields at n)
unfolding AreWithin
numbers_within at n h0 h1 h2 h3 h4 h5 h7 h9 run_a run_b flag_a flag_b =
    (h0, (h1, (h2, (h3, (h4, (h5, (omega (arith, run_a), (h7, (omega (arith, run_b), (h9, (omega (arith, flag_a), (omega (arith, flag_b), tt))))))))))))

pub port_within : (at : ℕ) (p : Port) (n : Numbers) → n ≡ saved_numbers p → n.first < 2 ^ 8 → n.second < 2 ^ 8 → n.high_a < 2 ^ 8 → n.low_a < 2 ^ 8 → n.number_b < 2 ^ 8 → n.control < 2 ^ 8
    → n.next_a < 2 ^ 64 → n.next_b < 2 ^ 64 → AreWithin (number_fields at (saved_numbers p))
port_within at p n is h0 h1 h2 h3 h4 h5 h7 h9 =
    subst (λ (k : Numbers). AreWithin (number_fields at k)) is
    (numbers_within at n h0 h1 h2 h3 h4 h5 h7 h9
    (subst (λ (k : Numbers). k.run_a ≤ 1) (sym is) (bit_below p.timers.a.run)) (subst (λ (k : Numbers). k.run_b ≤ 1) (sym is) (bit_below p.timers.b.run))
    (subst (λ (k : Numbers). k.flag_a ≤ 1) (sym is) (bit_below p.timers.a.flag)) (subst (λ (k : Numbers). k.flag_b ≤ 1) (sym is) (bit_below p.timers.b.flag)))

numbers_right : (at : ℕ) (p : Port) → are_saved_timers at p.timers ≡ true → first_invalid 0 (number_fields at (saved_numbers p)) ≡ None
unfolding AllHold
numbers_right at p timed =
    let parts = and_parts _ _ timed in
    let a = and_parts _ _ parts.0 in
    let b = and_parts _ _ parts.1 in
    none_invalid 0 (number_fields at (saved_numbers p))
    (refl, (refl, (refl, (refl, (refl, (refl, (a.0, (a.1, (b.0, (b.1, (flag_small p.timers.a.flag, (flag_small p.timers.b.flag, tt))))))))))))

-- the rules have no part in its bytes
same_bytes : (at : ℕ) (p : Port) → port_bytes p ≡ spelling (port_fields at (saved_port_of p))
unfolding spelling
same_bytes at p = refl

pub port_kept : (at : ℕ) (p : Port) → length p.writes ≤ 1024 → AreWithin (number_fields at (saved_numbers p)) → AreFit write_fields (map saved_write_of p.writes)
    → are_saved_timers at p.timers ≡ true → are_right at (map saved_write_of p.writes) ≡ true → SpellsPort at (port_bytes p) p
port_kept at p few within fit timed right =
    let es : List SavedWrite = map saved_write_of p.writes in
    let s : SavedPort = saved_port_of p in
    let count : length es ≡ length p.writes = length-map p.writes saved_write_of in
    let zeros : are_zeros (drop (12 * length p.writes) s.entries) ≡ true = ap (λ (n : ℕ). are_zeros (drop (12 * n) s.entries)) (sym count) ∙ zeros_kept write_layout room es in
    let holds : are_writes at s.count s.entries ≡ true = all_right 12 write_at (are_right at) s.count s.entries few (ap (are_right at) (numbers_again p.writes fit) ∙ right) zeros in
    let list : AreWithin (list_fields at s) =
    subst (λ (n : ℕ). AreWithin (ports.list_fields entries_size (are_writes at s.count s.entries) n s.entries)) count
    (list_within write_layout room (are_writes at s.count s.entries) es (omega (arith, count, few))) in
    record {
      keeps = record { within = within_append (number_fields at (saved_numbers p)) (list_fields at s) within list; all = same_bytes at p };
      right = following at s (numbers_right at p timed) ∙ list_right count_offset entries_size (are_writes at s.count s.entries) s.count s.entries holds;
      fit = fit;
    }
