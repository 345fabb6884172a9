-- The number of each stop, what a fault says, and the name of each layer. Assumes nothing.
use Rattle.std.specs.Prelude.{ℕ, List, codes}
use Rattle.stops.specs.declared.Stop.{Stop}
use Rattle.stops.specs.declared.Stop.TheVariants.{OddDigits, NotADigit, TooLong, UnknownKind, WrongLength, OutOfSequence, OutOfRange, GivenBefore, NoSuchMovement, Full, Unfinished}
use Rattle.stops.specs.declared.Fault.{Fault}
use Rattle.stops.specs.declared.Layer.{Layer}
use Rattle.stops.specs.declared.Layer.TheVariants.{Text, Frame, Book}

-- the number by which planners know a stop, and when it comes
abbrev pub number_of : Stop → ℕ
-- a line of an odd number of digits
number_of OddDigits = 1
-- a character that is no digit
number_of NotADigit = 2
-- a text over 65,536 characters, or a line over 246
number_of TooLong = 3
-- no first byte, or one that names no kind
number_of UnknownKind = 4
-- not a length of its kind
number_of WrongLength = 5
-- a kind below that of the last line taken, a second closing, or a movement number that is not the next
number_of OutOfSequence = 6
-- a priority, a weight, a window, or a set time and its release, outside its bounds
number_of OutOfRange = 7
-- a section twice in a line, or an ordered pair or an opening that an earlier line gave
number_of GivenBefore = 8
-- a movement number that is not 1 to the count of movements
number_of NoSuchMovement = 9
-- one movement or one run more than there is room for
number_of Full = 10
-- closing with no movement, or with no closing line
number_of Unfinished = 11

-- a stop at a place of a line
abbrev pub fault : Stop → ℕ → ℕ → Fault
fault s l p = record { stop = s; line = l; place = p }

-- the word by which a report names the layer
abbrev pub layer_name : Layer → List ℕ
layer_name Text = codes "text"
layer_name Frame = codes "frame"
layer_name Book = codes "book"
