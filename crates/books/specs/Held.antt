-- What a draft and a book hold, with the memory that is lent to them. Assumes nothing.
use Rattle.std.specs.Prelude.{ℕ, [], replicate, Some, None, Option}
use Rattle.frames.specs.declared.kind.Kind.{Kind}
use Rattle.frames.specs.Kinds.{kind_number}
use Rattle.entries.specs.declared.memory.Closing.{Closing}
use Rattle.entries.specs.declared.memory.Memory.{Memory}
use Rattle.entries.specs.Entries.{Entries, entries_of}
use Rattle.books.specs.declared.state.Draft.{Draft}
use Rattle.books.specs.declared.state.Book.{Book}

-- a draft: how many lines it took, the number of the kind of the last, what they gave, and the closing line if there was one
pub record Drafted : Type 0 where
  pub lines : ℕ
  pub last : ℕ
  pub entries : Entries
  pub closing : Option Closing

-- a closed book
pub record Closed : Type 0 where
  pub lines : ℕ
  pub entries : Entries
  pub closing : Closing

-- a draft that has taken no line
abbrev pub empty : Drafted
empty = record {
  lines = 0;
  last = 0;
  entries = record { movements = []; table = replicate 64 (replicate 64 None); openings = replicate 64 None; order_a = []; order_b = [] };
  closing = None;
}

-- the number of the kind of the last line, 0 before the first
abbrev pub last_number : Option Kind → ℕ
last_number None = 0
last_number (Some k) = kind_number k

-- what a draft means with its memory
abbrev pub draft_of : Draft → Memory → Drafted
draft_of d m = record {
  lines = d.counts.lines;
  last = last_number d.last_kind;
  entries = entries_of d.counts.movements d.counts.runs_a d.counts.runs_b m;
  closing = d.closing;
}

-- what a book means with its memory
abbrev pub book_of : Book → Memory → Closed
book_of b m = record { lines = b.counts.lines; entries = entries_of b.counts.movements b.counts.runs_a b.counts.runs_b m; closing = b.closing }
