-- The fields of the places passed are written, and there is room for one more.
use mathlib.Core.Path.{◌≡◌, sym, ap, subst, ◌∙◌}
use mathlib.Core.List.{◌++◌}
use Prim.Native.Nat.{◌/◌}
use native.Mathlib.Omega.{arith}
use lib.ListN.{length}
use Rattle.lists.specs.Listed.{listed}
use Rattle.lists.proofs.Each.{each_at}
use Rattle.lists.proofs.Put.{wrote_none, wrote_then, wrote_same}
use Rattle.document.specs.declared.Place.{Place}
use Rattle.document.specs.Places.{place, Within}
use Rattle.document.specs.Encoding.{strip_of}
use Rattle.document.specs.Message.{strip_fields}
use Rattle.document.proofs.Message.{field_at, fields_next}
use Rattle.message.specs.PlaceBytes.{place_from, places_from}
use Rattle.message.proofs.Places.{places_length, places_at_lem, next_fits}
use Rattle.message.proofs.Message.put_strips.Goals as goal

pub loop-i-init : goal.loop-i-init
unfolding strip_fields listed
loop-i-init c = wrote_none _ _

pub put_strip_of-next-requires-clause-within : goal.put_strip_of-next-requires-clause-within
put_strip_of-next-requires-clause-within c =
    subst (Within c.args.self.now.profile) (sym c.place.ensures)
    (each_at (place 0 0) c.requires.within c.loop-i.i (omega (arith, places_length c.args.self.now.places.now)))

pub put_strip_of-next-requires-clause-room : goal.put_strip_of-next-requires-clause-room
put_strip_of-next-requires-clause-room c =
    let m = c.args.self.now in
    omega (
      arith,
      next_fits m.profile m.recording c.args.array.now c.requires.array m.places.now c.requires.within
          c.loop-i.i (omega arith),
    )

pub loop-i-preserved : goal.loop-i-preserved
loop-i-preserved c =
    let m = c.args.self.now in
    let bs = m.places.now in
    let strips = strip_of m.profile c.args.array.now in
    let written = strip_fields m.recording strips (listed c.loop-i.i (place_from bs)) in
    wrote_same
    (ap (λ (q : Place). written ++ field_at m.recording strips q)
    (c.place.ensures ∙ places_at_lem bs c.loop-i.i (omega arith))
    ∙ fields_next m.recording strips (place_from bs) c.loop-i.i)
    (wrote_then (omega arith) c.loop-i.invariant c.put_strip_of-next.ensures)

pub returns : goal.returns
unfolding places_from
returns c =
    let all : c.loop-i.i ≡ length c.args.self.now.places.now / 2 = omega arith in
    rw all at c.loop-i.invariant
