-- The kinds of line and the lengths that each has. Assumes nothing.
use Rattle.std.specs.Prelude.{◌≡◌, ℕ, ◌-◌, ◌%◌, ◌<◌, ◌⊎◌, Bool, ◌&&◌, Ok, Err, Result, ◌==◌, nat_le}
use Rattle.frames.specs.declared.kind.Kind.{Kind}
use Rattle.frames.specs.declared.kind.Kind.TheVariants.{Movement, Pair, Opening, OrderA, OrderB, Closing}
use Rattle.frames.specs.declared.kind.UnknownKind.{UnknownKind}

-- the first byte of a line names its kind
abbrev pub movement_kind : ℕ
movement_kind = 1

abbrev pub pair_kind : ℕ
pair_kind = 2

abbrev pub opening_kind : ℕ
opening_kind = 3

abbrev pub order_a_kind : ℕ
order_a_kind = 4

abbrev pub order_b_kind : ℕ
order_b_kind = 5

abbrev pub closing_kind : ℕ
closing_kind = 6

-- the number of a kind
abbrev pub kind_number : Kind → ℕ
kind_number Movement = movement_kind
kind_number Pair = pair_kind
kind_number Opening = opening_kind
kind_number OrderA = order_a_kind
kind_number OrderB = order_b_kind
kind_number Closing = closing_kind

-- what a number is read as: the kind whose number it is, or the number itself where it is that of no kind
abbrev pub NamesKind : ℕ → Result Kind UnknownKind → Type 0
NamesKind b (Ok k) = kind_number k ≡ b
NamesKind b (Err e) = (e.0 ≡ b) × ((b < movement_kind) ⊎ (closing_kind < b))

-- five bytes for each of 1 to 24 steps
abbrev pub steps_length : ℕ → Bool
steps_length n = n % 5 == 0 && nat_le 5 n && nat_le n 120

-- kind, number and priority, then steps
abbrev pub movement_length : ℕ → Bool
movement_length n = steps_length (n - 3)

-- kind, first, second, two bytes of gap, weight
abbrev pub pair_length : ℕ → Bool
pair_length n = n == 6

-- kind, movement, three bytes of seconds
abbrev pub opening_length : ℕ → Bool
opening_length n = n == 5

-- kind, then one byte for each of 1 or more runs
abbrev pub order_length : ℕ → Bool
order_length n = nat_le 2 n

-- kind, movement, three bytes of window
abbrev pub closing_length : ℕ → Bool
closing_length n = n == 5
