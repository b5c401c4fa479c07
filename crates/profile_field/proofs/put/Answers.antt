-- `profile_field::put` meets its contract: the opening, then the content.
use mathlib.Core.Path.{sym, ap}
use native.Mathlib.Omega.{arith}
use Rattle.lists.proofs.Put.{wrote_then}
use Rattle.fields.specs.Fields.{opening, two_bytes, field_of}
use Rattle.document.specs.Accepted.{Profile}
use Rattle.profile_field.proofs.put.Goals as goal

pub put_bytes-requires : goal.put_bytes-requires
unfolding opening two_bytes
put_bytes-requires c =
    let same = ap (λ (p : Profile). p.edition) (sym c.p.view_is) in
    let opened = rw (c.opening_bytes.ensures c.args.p same) at c.put_bytes-after_opening.ensures in
    rw (c.content_length.ensures.length c.args.p same, c.content_bytes-content.ensures)
    (omega (arith, opened.ends, c.put_bytes-after_opening.auto.out))

pub returns : goal.returns
unfolding field_of
returns c =
    let same = ap (λ (p : Profile). p.edition) (sym c.p.view_is) in
    let opened = rw (c.opening_bytes.ensures c.args.p same) at c.put_bytes-after_opening.ensures in
    let size = c.content_length.ensures.length c.args.p same in
    let written = rw (size, c.content_bytes-content.ensures) at c.put_bytes.ensures in
    wrote_then (omega arith) opened written
