use Rattle.std.proofs.Common.{◌≡◌, get_or, sym, ap, ◌∙◌, rules}
use Rattle.frames.specs.Kinds.{kind_number}
use Rattle.frames.specs.Frames.{by_kind}
use Rattle.frames.proofs.Reading.{first_names, named_kind}
use Rattle.frames.proofs.frame.Frame.read.Goals as goal

pub returns : goal.returns
returns c =
    let line = c.args.line in
    let bytes = c.args.bytes.now in
    let named : kind_number c.in_ok-kind.kind ≡ get_or bytes 0 0 = named_kind _ c.try_from.result _ c.try_from.ensures (search rules) in
    c.of_kind.ensures ∙ ap (by_kind line bytes) named ∙ sym (first_names line bytes c.in-len1-up.len_at_least)
