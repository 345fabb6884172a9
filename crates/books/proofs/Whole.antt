-- From line to line: a draft holds exactly what its lines say. Assumes nothing.
use Rattle.std.proofs.Common.{◌≡◌, ℕ, ◌+◌, ◌-◌, ◌<◌, ◌≤◌, List, [], ◌∷◌, ◌++◌, length, take, replicate, get_or, None, Ok, Err, Option, Result, refl, append_assoc, append-nil, arith}
use Rattle.std.specs.List.{flat_map}
use Rattle.std.specs.Option.{option_to_list}
use Rattle.std.proofs.lemmas.Bool.Decides.{nat_tests}
use Rattle.std.proofs.lemmas.Grind.{common_steps}
use Rattle.lines.specs.Reading.{longest_text}
use Rattle.frames.specs.declared.fault.FrameFault.{FrameFault}
use Rattle.frames.specs.Kinds.{closing_kind}
use Rattle.frames.specs.Frames.{Content, kind_of, line_frame}
use Rattle.faults.specs.declared.BookFault.{BookFault}
use Rattle.entries.specs.declared.memory.Listed.{Listed}
use Rattle.entries.specs.Checks.{passed}
use Rattle.books.specs.Held.{Drafted, empty}
use Rattle.books.specs.Adding.{next_line, added}
use Rattle.books.specs.Taking.{kind_check, fields_check}
use Rattle.books.specs.TextBook.{in_book, after_reading, after_line, Stopped, or_stopped, through}
use Rattle.books.specs.Says.{closing_in, ReadAs}
use Rattle.books.proofs.Saying.{Sofar, joined_push, sofar_more}

-- the draft after the lines cs
pub record After (cs : List Content) (h : Drafted) : Type 0 where
  pub entries : Sofar cs h.entries
  pub closes : flat_map closing_in cs ≡ option_to_list h.closing
  pub open_yet : (h.last ≡ closing_kind → ⊥) → h.closing ≡ None
  pub counts : h.lines ≡ length cs

-- no line is taken behind the closing line
kind_small : (c : Content) → kind_of c ≤ closing_kind
kind_small c = grind arith

closed_last : (line last : ℕ) (c : Content) → kind_check line last c ≡ passed → last ≡ closing_kind → ⊥
closed_last line last c ok is = grind (arith, nat_tests, kind_small)

-- what is known of a line that was taken
abbrev Taken : Drafted → Drafted → Content → Type 0
Taken h h' c = (kind_check (next_line h.lines) h.last c ≡ passed) × (fields_check (next_line h.lines) (length h.entries.movements) h c ≡ passed) × (added h c ≡ h')

after_more : (cs : List Content) (h h' : Drafted) (c : Content) → After cs h → length cs < longest_text → Taken h h' c → After (cs ++ c ∷ []) h'
after_more cs h h' c after room t =
    let none : h.closing ≡ None = after.open_yet (closed_last (next_line h.lines) h.last c t.0) in
    rw (← t.2) (record {
      entries = sofar_more (next_line h.lines) cs h c after.entries t.1;
      closes = grind (arith, joined_push, none, after.closes);
      open_yet = λ other. grind (arith, none);
      counts = grind (arith, common_steps, after.counts);
    })

taken : (h h' : Drafted) (r : Result Content FrameFault) → after_reading h (in_book r) ≡ Ok h' → (c : Content) × (r ≡ Ok c) × Taken h h' c
taken h h' (Ok c) e = (c, refl, grind arith)
taken h h' (Err f) e = absurd cc

-- how far a reading came
abbrev pub reached : Result Drafted Stopped → Drafted
reached (Ok h) = h
reached (Err s) = s.held

-- a reading of the lines ls, behind the lines cs: those that it took, all where it came to their end
pub record Took (cs : List Content) (ls : List (List ℕ)) (r : Result Drafted Stopped) : Type 0 where
  pub contents : List Content
  pub read : ReadAs (length cs + 1) (take (length contents) ls) contents
  pub after : After (cs ++ contents) (reached r)
  pub whole : (h : Drafted) → r ≡ Ok h → length contents ≡ length ls

pub stopped : (s : Stopped) (ls : List (List ℕ)) → through (Err s) ls ≡ Err s
stopped s [] = refl
stopped s (l ∷ ls) = stopped s ls

-- a line and those behind it
one_more : (l : List ℕ) (ls : List (List ℕ)) (cs : List Content) (h : Drafted) → After cs h → length cs + length (l ∷ ls) ≤ longest_text → ((c : Content) (h' : Drafted) → After (cs ++ c ∷ []) h' → Took (cs ++ c ∷ []) ls (through (Ok h') ls)) → (r : Result Drafted BookFault) → after_line h l ≡ r → Took cs (l ∷ ls) (through (or_stopped h r) ls)
one_more l ls cs h after room later (Ok h') e =
    let number : next_line h.lines ≡ length cs + 1 = omega (arith, after.counts) in
    let t = taken h h' (line_frame (next_line h.lines) l) e in
    let rest = later t.0 h' (after_more cs h h' t.0 after (omega arith) t.2) in
    let counted : length (cs ++ t.0 ∷ []) ≡ length cs + 1 = grind (arith, common_steps) in
    record {
      contents = t.0 ∷ rest.contents;
      read = (rw (← number) t.1, rw counted at rest.read);
      after = rw append_assoc at rest.after;
      whole = λ x is. omega (arith, rest.whole x is);
    }
one_more l ls cs h after room later (Err f) e =
    rw stopped (record { contents = []; read = tt; after = rw append-nil after; whole = λ x is. absurd cc })

pub took : (ls : List (List ℕ)) (cs : List Content) (h : Drafted) → After cs h → length cs + length ls ≤ longest_text → Took cs ls (through (Ok h) ls)
took [] cs h after room = record { contents = []; read = tt; after = rw append-nil after; whole = λ x is. refl }
took (l ∷ ls) cs h after room = one_more l ls cs h after room (λ c h' next. took ls (cs ++ c ∷ []) h' next (grind (arith, common_steps))) (after_line h l) refl

-- no line, nothing held
nothing_at : {X : Type 0} (n k : ℕ) (x : X) → get_or (replicate n x) k x ≡ x
nothing_at n k x = grind (arith, common_steps)

nothing_listed : {X : Type 0} (n i j : ℕ) (x : X) → get_or (get_or (replicate n (replicate n x)) i []) j x ≡ x
nothing_listed n i j x = grind (arith, common_steps, nothing_at)

row_long : {X : Type 0} (n k : ℕ) (x : X) → k < n → length (get_or (replicate n (replicate n x)) k []) ≡ n
row_long n k x inside = grind (arith, common_steps)

pub begun : After [] empty
begun =
    record {
      entries = record {
        gives = record {
          movements = refl;
          numbers = refl;
          runs_a = refl;
          runs_b = refl;
          pairs = λ a b g w there. absurd there;
          no_other_pairs = λ a b l low low' is. absurd (cc (nothing_listed {X = Option Listed} 64 (a - 1) (b - 1) None, is));
          openings = λ m s there. absurd there;
          no_other_openings = λ m s low is. absurd (cc (nothing_at {X = Option ℕ} 64 (m - 1) None, is));
        };
        shaped = record { long = refl; rows = λ k inside. row_long 64 k None inside; opens = refl };
        few = omega arith;
        pair_lows = λ a b g w there. absurd there;
        opening_lows = λ m s there. absurd there;
      };
      closes = refl;
      open_yet = λ _. refl;
      counts = omega arith;
    }
