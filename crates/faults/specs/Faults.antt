-- What a fault of a reading says: the layer that found it, and the stop with its line and place. Assumes nothing.
use Rattle.std.specs.Prelude.{ℕ, List, ◌++◌, codes, decimal}
use Rattle.stops.specs.Stops.{number_of, layer_name}
use Rattle.stops.specs.declared.Fault.{Fault}
use Rattle.stops.specs.declared.Layer.{Layer}
use Rattle.stops.specs.declared.Layer.TheVariants as layers
use Rattle.frames.specs.declared.fault.FrameFault.TheVariants as frames
use Rattle.faults.specs.declared.BookFault.{BookFault}
use Rattle.faults.specs.declared.BookFault.TheVariants.{Frame, Found}

-- the layer that found the fault
abbrev pub layer_of : BookFault → Layer
layer_of (Frame (frames.Text f)) = layers.Text
layer_of (Frame (frames.Found f)) = layers.Frame
layer_of (Found f) = layers.Book

-- the stop with its line and place, as that layer found it
abbrev pub found_of : BookFault → Fault
found_of (Frame (frames.Text f)) = f.found
found_of (Frame (frames.Found f)) = f
found_of (Found f) = f

-- the words of a stop: its number, the line, the place and the layer's name
abbrev pub stop_text : ℕ → ℕ → ℕ → List ℕ → List ℕ
stop_text number line place layer =
    codes "stop " ++ (decimal number ++ (codes " " ++ (decimal line ++ (codes " " ++ (decimal place ++ (codes " " ++ layer))))))

-- the words of a fault
abbrev pub stop_words : BookFault → List ℕ
stop_words f = stop_text (number_of (found_of f).stop) (found_of f).line (found_of f).place (layer_name (layer_of f))
