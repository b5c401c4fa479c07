-- Each return is the answer of the tests that led there.
use mathlib.Core.Path.{sym}
use native.Mathlib.Omega.{arith}
use Rattle.document.specs.Message.{strip_field_start}
use Rattle.document.proofs.Message.{formed_length}
use Rattle.message.proofs.Answers.{form_refused, head_refused, place_refused, stale_refused, passed}
use Rattle.message.proofs.Message.check.Goals as goal

pub returns-then-not-formed : goal.returns-then-not-formed
returns-then-not-formed c = form_refused c.args.self.now _ c.if-not-formed.ensures

pub headed-requires : goal.headed-requires
headed-requires c = omega (arith, formed_length _ _ _ _ (sym c.if-not-formed.ensures))

pub returns-then-not-headed : goal.returns-then-not-headed
returns-then-not-headed c =
    head_refused c.args.self.now _ c.if-not-formed.ensures c.if-not-headed.ensures

pub invariant_of-received : goal.invariant_of-received
unfolding strip_field_start
invariant_of-received c =
    record { room = omega (arith, formed_length _ _ _ _ (sym c.if-not-formed.ensures)) }

pub returns-in-Some : goal.returns-in-Some
returns-in-Some c =
    place_refused c.args.self.now _ c.if-not-formed.ensures c.if-not-headed.ensures c.in-Some.ensures

pub returns-in-Some-first_stale : goal.returns-in-Some-first_stale
returns-in-Some-first_stale c =
    stale_refused c.args.self.now _ c.if-not-formed.ensures c.if-not-headed.ensures c.in_default.ensures
    c.in-Some-first_stale.ensures

pub returns : goal.returns
returns c =
    passed c.args.self.now _ c.if-not-formed.ensures c.if-not-headed.ensures c.in_default.ensures
    c.in_default-first_stale.ensures
