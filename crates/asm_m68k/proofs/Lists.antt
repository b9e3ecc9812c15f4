-- The lists of MOVEM: how their texts fall into tokens, and that what is read of them is the list.
use Rattle.std.proofs.Common.{◌≡◌, ℕ, ◌+◌, ◌-◌, ◌*◌, ◌/◌, ◌%◌, ◌^◌, ◌<◌, ◌==◌, Bool, true, false, cond, List, [], ◌∷◌, ◌++◌, append_assoc, refl, ap, ◌∙◌, arith, if◌then◌else◌, codes, lit<}
use Rattle.std.specs.List.{filter, flat_map, join_by}
use Rattle.std.proofs.lemmas.Bool.Decides.{nat_tests}
use Rattle.md_disasm.specs.Operands68.{is_listed, list_text, register_name, registers}
use Rattle.md_asm_text.specs.Operands.{operands_of}
use Rattle.md_asm_text.specs.Tokens as tokens
use Rattle.md_asm_text.specs.Tokens.{Token, is_worded, is_name, split, token_of}
use Rattle.md_asm_text.proofs.Splits.{following, is_end, mark_split, word_split}
use Rattle.asm_m68k.specs.Reading.{Masks, operand_form, masks_of, with_register, word_form}
use Rattle.asm_m68k.specs.declared.form.Form.{Form}
use Rattle.asm_m68k.specs.declared.form.Form.TheVariants as forms
use Rattle.asm_m68k.proofs.Operands.{either_form, name_read, name_split}

-- ---- tokens

abbrev pub more_tokens : List ℕ → List Token
more_tokens [] = []
more_tokens (n ∷ ns) = tokens.Mark 47 ∷ tokens.Word (register_name n) ∷ more_tokens ns

abbrev pub names_tokens : List ℕ → List Token
names_tokens [] = []
names_tokens (n ∷ ns) = tokens.Word (register_name n) ∷ more_tokens ns

abbrev pub listed : Bool → ℕ → List ℕ
listed turned list = filter (is_listed turned list) registers

abbrev pub list_tokens : Bool → ℕ → List Token
list_tokens turned list = if list == 0 then tokens.Word (codes "none") ∷ [] else names_tokens (listed turned list)

abbrev slashed : ℕ → List ℕ
slashed n = codes "/" ++ register_name n

more_end : (ns e : List ℕ) → is_end e ≡ true → is_end (flat_map slashed ns ++ e) ≡ true
unfolding is_worded
more_end [] e ends = ends
more_end (n ∷ ns) e ends = refl

more_split : (ns e : List ℕ) → is_end e ≡ true → split [] (flat_map slashed ns ++ e) ≡ more_tokens ns ++ split [] e
unfolding is_worded
more_split [] e ends = refl
more_split (n ∷ ns) e ends =
    ap (λ (l : List ℕ). split [] (47 ∷ l)) (append_assoc (register_name n) (flat_map slashed ns) e)
    ∙ mark_split 47 (register_name n ++ (flat_map slashed ns ++ e)) refl
    ∙ following _ _ _ (name_split n (flat_map slashed ns ++ e) (more_end ns e ends) ∙ following _ _ _ (more_split ns e ends))

names_split : (ns e : List ℕ) → is_end e ≡ true → split [] (join_by register_name (codes "/") ns ++ e) ≡ names_tokens ns ++ split [] e
names_split [] e ends = refl
names_split (n ∷ ns) e ends =
    ap (split []) (append_assoc (register_name n) (flat_map slashed ns) e)
    ∙ name_split n (flat_map slashed ns ++ e) (more_end ns e ends) ∙ following _ _ _ (more_split ns e ends)

list_split_by : (b : Bool) (turned : Bool) (list : ℕ) (e : List ℕ) → (list == 0) ≡ b → is_end e ≡ true → split [] (list_text turned list ++ e) ≡ list_tokens turned list ++ split [] e
unfolding list_text is_worded token_of is_name
list_split_by true turned list e is ends = rw is (word_split (codes "none") e refl ends)
list_split_by false turned list e is ends = rw is (names_split (listed turned list) e ends)

pub list_split : (turned : Bool) (list : ℕ) (e : List ℕ) → is_end e ≡ true → split [] (list_text turned list ++ e) ≡ list_tokens turned list ++ split [] e
list_split turned list e ends = list_split_by (list == 0) turned list e refl ends

-- ---- commas

abbrev comma : Token
comma = tokens.Mark 44

more_apart : (ns : List ℕ) (rest : List Token) → operands_of false (more_tokens ns ++ comma ∷ rest) ≡ (more_tokens ns, rest)
unfolding operands_of
more_apart [] rest = refl
more_apart (n ∷ ns) rest = rw (more_apart ns rest) refl

names_apart : (ns : List ℕ) (rest : List Token) → operands_of false (names_tokens ns ++ comma ∷ rest) ≡ (names_tokens ns, rest)
unfolding operands_of
names_apart [] rest = refl
names_apart (n ∷ ns) rest = rw (more_apart ns rest) refl

more_alone : (ns : List ℕ) → operands_of false (more_tokens ns) ≡ (more_tokens ns, [])
unfolding operands_of
more_alone [] = refl
more_alone (n ∷ ns) = rw (more_alone ns) refl

names_alone : (ns : List ℕ) → operands_of false (names_tokens ns) ≡ (names_tokens ns, [])
unfolding operands_of
names_alone [] = refl
names_alone (n ∷ ns) = rw (more_alone ns) refl

apart_by : (b : Bool) (turned : Bool) (list : ℕ) (rest : List Token) → (list == 0) ≡ b → operands_of false (list_tokens turned list ++ comma ∷ rest) ≡ (list_tokens turned list, rest)
unfolding operands_of
apart_by true turned list rest is = rw is refl
apart_by false turned list rest is = rw is (names_apart (listed turned list) rest)

pub list_apart : (turned : Bool) (list : ℕ) (rest : List Token) → operands_of false (list_tokens turned list ++ comma ∷ rest) ≡ (list_tokens turned list, rest)
list_apart turned list rest = apart_by (list == 0) turned list rest refl

alone_by : (b : Bool) (turned : Bool) (list : ℕ) → (list == 0) ≡ b → operands_of false (list_tokens turned list) ≡ (list_tokens turned list, [])
unfolding operands_of
alone_by true turned list is = rw is refl
alone_by false turned list is = rw is (names_alone (listed turned list))

pub list_alone : (turned : Bool) (list : ℕ) → operands_of false (list_tokens turned list) ≡ (list_tokens turned list, [])
list_alone turned list = alone_by (list == 0) turned list refl

-- ---- what is read

abbrev pub register_masks : List ℕ → Masks
register_masks [] = (0, 0)
register_masks (n ∷ ns) = with_register n (register_masks ns)

abbrev pub names_form : List ℕ → Form
names_form [] = forms.Nothing
names_form (n ∷ []) = forms.Register n
names_form (n ∷ m ∷ ns) = forms.Registers (register_masks (n ∷ m ∷ ns)).0 (register_masks (n ∷ m ∷ ns)).1

abbrev pub list_form : Bool → ℕ → Form
list_form turned list = if list == 0 then forms.Registers 0 0 else names_form (listed turned list)

-- all are below 16
abbrev AreRegisters : List ℕ → Type 0
AreRegisters [] = Unit {0}
AreRegisters (n ∷ ns) = (n < 16) × AreRegisters ns

more_read : (ns : List ℕ) → AreRegisters ns → masks_of (more_tokens ns) ≡ register_masks ns
unfolding masks_of
more_read [] h = refl
more_read (n ∷ ns) h = rw (name_read n h.0, more_read ns h.1) refl

names_read : (ns : List ℕ) → AreRegisters ns → operand_form (names_tokens ns) ≡ names_form ns
unfolding operand_form masks_of
names_read [] h = refl
names_read (n ∷ []) h = either_form n h.0
names_read (n ∷ m ∷ ns) h = rw (name_read n h.0, name_read m h.1.0, more_read ns h.1.1) refl

kept_one : (b : Bool) (n : ℕ) (ns : List ℕ) → n < 16 → AreRegisters ns → AreRegisters (cond b (n ∷ ns) ns)
kept_one true n ns h k = (h, k)
kept_one false n ns h k = k

kept : (test : ℕ → Bool) (ns : List ℕ) → AreRegisters ns → AreRegisters (filter test ns)
kept test [] h = tt
kept test (n ∷ ns) h = kept_one (test n) n (filter test ns) h.0 (kept test ns h.1)

sixteen : AreRegisters registers
sixteen = (lit< tt, (lit< tt, (lit< tt, (lit< tt, (lit< tt, (lit< tt, (lit< tt, (lit< tt, (lit< tt, (lit< tt, (lit< tt, (lit< tt, (lit< tt, (lit< tt, (lit< tt, (lit< tt, tt))))))))))))))))

read_by : (b : Bool) (turned : Bool) (list : ℕ) → (list == 0) ≡ b → operand_form (list_tokens turned list) ≡ list_form turned list
unfolding operand_form word_form
read_by true turned list is = rw is refl
read_by false turned list is = rw is (names_read (listed turned list) (kept (is_listed turned list) registers sixteen))

pub list_read : (turned : Bool) (list : ℕ) → operand_form (list_tokens turned list) ≡ list_form turned list
list_read turned list = read_by (list == 0) turned list refl

-- ---- the list again

mask_below : (ns : List ℕ) → (register_masks ns).0 < 65536
mask_below [] = omega arith
mask_below (n ∷ ns) = omega arith

down_below : (ns : List ℕ) → (register_masks ns).1 < 65536
down_below [] = omega arith
down_below (n ∷ ns) = omega arith

-- one register more
up_by : (b : Bool) (list k power : ℕ) (ns : List ℕ) → 2 ^ k ≡ power → (list / power % 2 == 1) ≡ b
    → (register_masks (cond b (k ∷ ns) ns)).0 ≡ ((list / power % 2) * power + (register_masks ns).0) % 65536
up_by true list k power ns e is =
    let one : list / power % 2 ≡ 1 = grind (arith, nat_tests) in
    rw (e, one) (omega arith)
up_by false list k power ns e is =
    let none : list / power % 2 ≡ 0 = grind (arith, nat_tests) in
    let few = mask_below ns in
    rw none (omega (arith, few))

down_by : (b : Bool) (list k power : ℕ) (ns : List ℕ) → 2 ^ (15 - k) ≡ power → (list / power % 2 == 1) ≡ b
    → (register_masks (cond b (k ∷ ns) ns)).1 ≡ ((list / power % 2) * power + (register_masks ns).1) % 65536
down_by true list k power ns e is =
    let one : list / power % 2 ≡ 1 = grind (arith, nat_tests) in
    rw (e, one) (omega arith)
down_by false list k power ns e is =
    let none : list / power % 2 ≡ 0 = grind (arith, nat_tests) in
    let few = down_below ns in
    rw none (omega (arith, few))

up_step : (list k power : ℕ) (ns : List ℕ) → 2 ^ k ≡ power
    → (register_masks (cond (is_listed false list k) (k ∷ ns) ns)).0 ≡ ((list / power % 2) * power + (register_masks ns).0) % 65536
unfolding is_listed
up_step list k power ns e = rw e (up_by (list / power % 2 == 1) list k power ns e refl)

down_step : (list k power : ℕ) (ns : List ℕ) → 2 ^ (15 - k) ≡ power
    → (register_masks (cond (is_listed true list k) (k ∷ ns) ns)).1 ≡ ((list / power % 2) * power + (register_masks ns).1) % 65536
unfolding is_listed
down_step list k power ns e = rw e (down_by (list / power % 2 == 1) list k power ns e refl)

-- what the registers from one on are worth: of D0 up the upper bits, of A7 down the lower
abbrev from : Bool → ℕ → List ℕ → List ℕ
from turned list ns = filter (is_listed turned list) ns

up_16 : (list : ℕ) → list < 65536 → (register_masks (from false list [])).0 ≡ list / 65536 * 65536
up_16 list h = omega arith

down_16 : (list : ℕ) → (register_masks (from true list [])).1 ≡ list % 1
down_16 list = omega arith

up_15 : (list : ℕ) → list < 65536 → (register_masks (from false list (15 ∷ []))).0 ≡ list / 32768 * 32768
up_15 list h = let step = up_step list 15 32768 (from false list []) refl in let more = up_16 list h in step ∙ rw more (omega arith)

down_15 : (list : ℕ) → (register_masks (from true list (15 ∷ []))).1 ≡ list % 2
down_15 list = let step = down_step list 15 1 (from true list []) refl in let more = down_16 list in step ∙ rw more (omega arith)

up_14 : (list : ℕ) → list < 65536 → (register_masks (from false list (14 ∷ (15 ∷ [])))).0 ≡ list / 16384 * 16384
up_14 list h = let step = up_step list 14 16384 (from false list (15 ∷ [])) refl in let more = up_15 list h in step ∙ rw more (omega arith)

down_14 : (list : ℕ) → (register_masks (from true list (14 ∷ (15 ∷ [])))).1 ≡ list % 4
down_14 list = let step = down_step list 14 2 (from true list (15 ∷ [])) refl in let more = down_15 list in step ∙ rw more (omega arith)

up_13 : (list : ℕ) → list < 65536 → (register_masks (from false list (13 ∷ (14 ∷ (15 ∷ []))))).0 ≡ list / 8192 * 8192
up_13 list h = let step = up_step list 13 8192 (from false list (14 ∷ (15 ∷ []))) refl in let more = up_14 list h in step ∙ rw more (omega arith)

down_13 : (list : ℕ) → (register_masks (from true list (13 ∷ (14 ∷ (15 ∷ []))))).1 ≡ list % 8
down_13 list = let step = down_step list 13 4 (from true list (14 ∷ (15 ∷ []))) refl in let more = down_14 list in step ∙ rw more (omega arith)

up_12 : (list : ℕ) → list < 65536 → (register_masks (from false list (12 ∷ (13 ∷ (14 ∷ (15 ∷ [])))))).0 ≡ list / 4096 * 4096
up_12 list h = let step = up_step list 12 4096 (from false list (13 ∷ (14 ∷ (15 ∷ [])))) refl in let more = up_13 list h in step ∙ rw more (omega arith)

down_12 : (list : ℕ) → (register_masks (from true list (12 ∷ (13 ∷ (14 ∷ (15 ∷ [])))))).1 ≡ list % 16
down_12 list = let step = down_step list 12 8 (from true list (13 ∷ (14 ∷ (15 ∷ [])))) refl in let more = down_13 list in step ∙ rw more (omega arith)

up_11 : (list : ℕ) → list < 65536 → (register_masks (from false list (11 ∷ (12 ∷ (13 ∷ (14 ∷ (15 ∷ []))))))).0 ≡ list / 2048 * 2048
up_11 list h = let step = up_step list 11 2048 (from false list (12 ∷ (13 ∷ (14 ∷ (15 ∷ []))))) refl in let more = up_12 list h in step ∙ rw more (omega arith)

down_11 : (list : ℕ) → (register_masks (from true list (11 ∷ (12 ∷ (13 ∷ (14 ∷ (15 ∷ []))))))).1 ≡ list % 32
down_11 list = let step = down_step list 11 16 (from true list (12 ∷ (13 ∷ (14 ∷ (15 ∷ []))))) refl in let more = down_12 list in step ∙ rw more (omega arith)

up_10 : (list : ℕ) → list < 65536 → (register_masks (from false list (10 ∷ (11 ∷ (12 ∷ (13 ∷ (14 ∷ (15 ∷ [])))))))).0 ≡ list / 1024 * 1024
up_10 list h = let step = up_step list 10 1024 (from false list (11 ∷ (12 ∷ (13 ∷ (14 ∷ (15 ∷ [])))))) refl in let more = up_11 list h in step ∙ rw more (omega arith)

down_10 : (list : ℕ) → (register_masks (from true list (10 ∷ (11 ∷ (12 ∷ (13 ∷ (14 ∷ (15 ∷ [])))))))).1 ≡ list % 64
down_10 list = let step = down_step list 10 32 (from true list (11 ∷ (12 ∷ (13 ∷ (14 ∷ (15 ∷ [])))))) refl in let more = down_11 list in step ∙ rw more (omega arith)

up_9 : (list : ℕ) → list < 65536 → (register_masks (from false list (9 ∷ (10 ∷ (11 ∷ (12 ∷ (13 ∷ (14 ∷ (15 ∷ []))))))))).0 ≡ list / 512 * 512
up_9 list h = let step = up_step list 9 512 (from false list (10 ∷ (11 ∷ (12 ∷ (13 ∷ (14 ∷ (15 ∷ []))))))) refl in let more = up_10 list h in step ∙ rw more (omega arith)

down_9 : (list : ℕ) → (register_masks (from true list (9 ∷ (10 ∷ (11 ∷ (12 ∷ (13 ∷ (14 ∷ (15 ∷ []))))))))).1 ≡ list % 128
down_9 list = let step = down_step list 9 64 (from true list (10 ∷ (11 ∷ (12 ∷ (13 ∷ (14 ∷ (15 ∷ []))))))) refl in let more = down_10 list in step ∙ rw more (omega arith)

up_8 : (list : ℕ) → list < 65536 → (register_masks (from false list (8 ∷ (9 ∷ (10 ∷ (11 ∷ (12 ∷ (13 ∷ (14 ∷ (15 ∷ [])))))))))).0 ≡ list / 256 * 256
up_8 list h = let step = up_step list 8 256 (from false list (9 ∷ (10 ∷ (11 ∷ (12 ∷ (13 ∷ (14 ∷ (15 ∷ [])))))))) refl in let more = up_9 list h in step ∙ rw more (omega arith)

down_8 : (list : ℕ) → (register_masks (from true list (8 ∷ (9 ∷ (10 ∷ (11 ∷ (12 ∷ (13 ∷ (14 ∷ (15 ∷ [])))))))))).1 ≡ list % 256
down_8 list = let step = down_step list 8 128 (from true list (9 ∷ (10 ∷ (11 ∷ (12 ∷ (13 ∷ (14 ∷ (15 ∷ [])))))))) refl in let more = down_9 list in step ∙ rw more (omega arith)

up_7 : (list : ℕ) → list < 65536 → (register_masks (from false list (7 ∷ (8 ∷ (9 ∷ (10 ∷ (11 ∷ (12 ∷ (13 ∷ (14 ∷ (15 ∷ []))))))))))).0 ≡ list / 128 * 128
up_7 list h = let step = up_step list 7 128 (from false list (8 ∷ (9 ∷ (10 ∷ (11 ∷ (12 ∷ (13 ∷ (14 ∷ (15 ∷ []))))))))) refl in let more = up_8 list h in step ∙ rw more (omega arith)

down_7 : (list : ℕ) → (register_masks (from true list (7 ∷ (8 ∷ (9 ∷ (10 ∷ (11 ∷ (12 ∷ (13 ∷ (14 ∷ (15 ∷ []))))))))))).1 ≡ list % 512
down_7 list = let step = down_step list 7 256 (from true list (8 ∷ (9 ∷ (10 ∷ (11 ∷ (12 ∷ (13 ∷ (14 ∷ (15 ∷ []))))))))) refl in let more = down_8 list in step ∙ rw more (omega arith)

up_6 : (list : ℕ) → list < 65536 → (register_masks (from false list (6 ∷ (7 ∷ (8 ∷ (9 ∷ (10 ∷ (11 ∷ (12 ∷ (13 ∷ (14 ∷ (15 ∷ [])))))))))))).0 ≡ list / 64 * 64
up_6 list h = let step = up_step list 6 64 (from false list (7 ∷ (8 ∷ (9 ∷ (10 ∷ (11 ∷ (12 ∷ (13 ∷ (14 ∷ (15 ∷ [])))))))))) refl in let more = up_7 list h in step ∙ rw more (omega arith)

down_6 : (list : ℕ) → (register_masks (from true list (6 ∷ (7 ∷ (8 ∷ (9 ∷ (10 ∷ (11 ∷ (12 ∷ (13 ∷ (14 ∷ (15 ∷ [])))))))))))).1 ≡ list % 1024
down_6 list = let step = down_step list 6 512 (from true list (7 ∷ (8 ∷ (9 ∷ (10 ∷ (11 ∷ (12 ∷ (13 ∷ (14 ∷ (15 ∷ [])))))))))) refl in let more = down_7 list in step ∙ rw more (omega arith)

up_5 : (list : ℕ) → list < 65536 → (register_masks (from false list (5 ∷ (6 ∷ (7 ∷ (8 ∷ (9 ∷ (10 ∷ (11 ∷ (12 ∷ (13 ∷ (14 ∷ (15 ∷ []))))))))))))).0 ≡ list / 32 * 32
up_5 list h = let step = up_step list 5 32 (from false list (6 ∷ (7 ∷ (8 ∷ (9 ∷ (10 ∷ (11 ∷ (12 ∷ (13 ∷ (14 ∷ (15 ∷ []))))))))))) refl in let more = up_6 list h in step ∙ rw more (omega arith)

down_5 : (list : ℕ) → (register_masks (from true list (5 ∷ (6 ∷ (7 ∷ (8 ∷ (9 ∷ (10 ∷ (11 ∷ (12 ∷ (13 ∷ (14 ∷ (15 ∷ []))))))))))))).1 ≡ list % 2048
down_5 list = let step = down_step list 5 1024 (from true list (6 ∷ (7 ∷ (8 ∷ (9 ∷ (10 ∷ (11 ∷ (12 ∷ (13 ∷ (14 ∷ (15 ∷ []))))))))))) refl in let more = down_6 list in step ∙ rw more (omega arith)

up_4 : (list : ℕ) → list < 65536 → (register_masks (from false list (4 ∷ (5 ∷ (6 ∷ (7 ∷ (8 ∷ (9 ∷ (10 ∷ (11 ∷ (12 ∷ (13 ∷ (14 ∷ (15 ∷ [])))))))))))))).0 ≡ list / 16 * 16
up_4 list h = let step = up_step list 4 16 (from false list (5 ∷ (6 ∷ (7 ∷ (8 ∷ (9 ∷ (10 ∷ (11 ∷ (12 ∷ (13 ∷ (14 ∷ (15 ∷ [])))))))))))) refl in let more = up_5 list h in step ∙ rw more (omega arith)

down_4 : (list : ℕ) → (register_masks (from true list (4 ∷ (5 ∷ (6 ∷ (7 ∷ (8 ∷ (9 ∷ (10 ∷ (11 ∷ (12 ∷ (13 ∷ (14 ∷ (15 ∷ [])))))))))))))).1 ≡ list % 4096
down_4 list = let step = down_step list 4 2048 (from true list (5 ∷ (6 ∷ (7 ∷ (8 ∷ (9 ∷ (10 ∷ (11 ∷ (12 ∷ (13 ∷ (14 ∷ (15 ∷ [])))))))))))) refl in let more = down_5 list in step ∙ rw more (omega arith)

up_3 : (list : ℕ) → list < 65536 → (register_masks (from false list (3 ∷ (4 ∷ (5 ∷ (6 ∷ (7 ∷ (8 ∷ (9 ∷ (10 ∷ (11 ∷ (12 ∷ (13 ∷ (14 ∷ (15 ∷ []))))))))))))))).0 ≡ list / 8 * 8
up_3 list h = let step = up_step list 3 8 (from false list (4 ∷ (5 ∷ (6 ∷ (7 ∷ (8 ∷ (9 ∷ (10 ∷ (11 ∷ (12 ∷ (13 ∷ (14 ∷ (15 ∷ []))))))))))))) refl in let more = up_4 list h in step ∙ rw more (omega arith)

down_3 : (list : ℕ) → (register_masks (from true list (3 ∷ (4 ∷ (5 ∷ (6 ∷ (7 ∷ (8 ∷ (9 ∷ (10 ∷ (11 ∷ (12 ∷ (13 ∷ (14 ∷ (15 ∷ []))))))))))))))).1 ≡ list % 8192
down_3 list = let step = down_step list 3 4096 (from true list (4 ∷ (5 ∷ (6 ∷ (7 ∷ (8 ∷ (9 ∷ (10 ∷ (11 ∷ (12 ∷ (13 ∷ (14 ∷ (15 ∷ []))))))))))))) refl in let more = down_4 list in step ∙ rw more (omega arith)

up_2 : (list : ℕ) → list < 65536 → (register_masks (from false list (2 ∷ (3 ∷ (4 ∷ (5 ∷ (6 ∷ (7 ∷ (8 ∷ (9 ∷ (10 ∷ (11 ∷ (12 ∷ (13 ∷ (14 ∷ (15 ∷ [])))))))))))))))).0 ≡ list / 4 * 4
up_2 list h = let step = up_step list 2 4 (from false list (3 ∷ (4 ∷ (5 ∷ (6 ∷ (7 ∷ (8 ∷ (9 ∷ (10 ∷ (11 ∷ (12 ∷ (13 ∷ (14 ∷ (15 ∷ [])))))))))))))) refl in let more = up_3 list h in step ∙ rw more (omega arith)

down_2 : (list : ℕ) → (register_masks (from true list (2 ∷ (3 ∷ (4 ∷ (5 ∷ (6 ∷ (7 ∷ (8 ∷ (9 ∷ (10 ∷ (11 ∷ (12 ∷ (13 ∷ (14 ∷ (15 ∷ [])))))))))))))))).1 ≡ list % 16384
down_2 list = let step = down_step list 2 8192 (from true list (3 ∷ (4 ∷ (5 ∷ (6 ∷ (7 ∷ (8 ∷ (9 ∷ (10 ∷ (11 ∷ (12 ∷ (13 ∷ (14 ∷ (15 ∷ [])))))))))))))) refl in let more = down_3 list in step ∙ rw more (omega arith)

up_1 : (list : ℕ) → list < 65536 → (register_masks (from false list (1 ∷ (2 ∷ (3 ∷ (4 ∷ (5 ∷ (6 ∷ (7 ∷ (8 ∷ (9 ∷ (10 ∷ (11 ∷ (12 ∷ (13 ∷ (14 ∷ (15 ∷ []))))))))))))))))).0 ≡ list / 2 * 2
up_1 list h = let step = up_step list 1 2 (from false list (2 ∷ (3 ∷ (4 ∷ (5 ∷ (6 ∷ (7 ∷ (8 ∷ (9 ∷ (10 ∷ (11 ∷ (12 ∷ (13 ∷ (14 ∷ (15 ∷ []))))))))))))))) refl in let more = up_2 list h in step ∙ rw more (omega arith)

down_1 : (list : ℕ) → (register_masks (from true list (1 ∷ (2 ∷ (3 ∷ (4 ∷ (5 ∷ (6 ∷ (7 ∷ (8 ∷ (9 ∷ (10 ∷ (11 ∷ (12 ∷ (13 ∷ (14 ∷ (15 ∷ []))))))))))))))))).1 ≡ list % 32768
down_1 list = let step = down_step list 1 16384 (from true list (2 ∷ (3 ∷ (4 ∷ (5 ∷ (6 ∷ (7 ∷ (8 ∷ (9 ∷ (10 ∷ (11 ∷ (12 ∷ (13 ∷ (14 ∷ (15 ∷ []))))))))))))))) refl in let more = down_2 list in step ∙ rw more (omega arith)

up_0 : (list : ℕ) → list < 65536 → (register_masks (from false list (0 ∷ (1 ∷ (2 ∷ (3 ∷ (4 ∷ (5 ∷ (6 ∷ (7 ∷ (8 ∷ (9 ∷ (10 ∷ (11 ∷ (12 ∷ (13 ∷ (14 ∷ (15 ∷ [])))))))))))))))))).0 ≡ list / 1 * 1
up_0 list h = let step = up_step list 0 1 (from false list (1 ∷ (2 ∷ (3 ∷ (4 ∷ (5 ∷ (6 ∷ (7 ∷ (8 ∷ (9 ∷ (10 ∷ (11 ∷ (12 ∷ (13 ∷ (14 ∷ (15 ∷ [])))))))))))))))) refl in let more = up_1 list h in step ∙ rw more (omega arith)

down_0 : (list : ℕ) → (register_masks (from true list (0 ∷ (1 ∷ (2 ∷ (3 ∷ (4 ∷ (5 ∷ (6 ∷ (7 ∷ (8 ∷ (9 ∷ (10 ∷ (11 ∷ (12 ∷ (13 ∷ (14 ∷ (15 ∷ [])))))))))))))))))).1 ≡ list % 65536
down_0 list = let step = down_step list 0 32768 (from true list (1 ∷ (2 ∷ (3 ∷ (4 ∷ (5 ∷ (6 ∷ (7 ∷ (8 ∷ (9 ∷ (10 ∷ (11 ∷ (12 ∷ (13 ∷ (14 ∷ (15 ∷ [])))))))))))))))) refl in let more = down_1 list in step ∙ rw more (omega arith)

pub up_whole : (list : ℕ) → list < 65536 → (register_masks (listed false list)).0 ≡ list
up_whole list h = let e = up_0 list h in omega (arith, e)

pub down_whole : (list : ℕ) → list < 65536 → (register_masks (listed true list)).1 ≡ list
down_whole list h = let e = down_0 list in omega (arith, e)
