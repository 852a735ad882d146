-- `frame::link_refusal` meets its contract. 'link's sender ≥ n or the vault's own number'; 'sender byte is not the link's' (01, Refusals 11 and 12).
-- Each return is decided by the tests that led to it.
-- Assumes nothing.
use mathlib.Core.Path.{refl}
use borrow.Author.Tests.{eq-eqb, ne_eqb, le-leb, lt-leb}
use Rattle.frame.proofs.link_refusal.Goals as goal

pub returns-then-n-link : goal.returns-then-n-link
returns-then-n-link c = rw (le-leb _ _ c.if-n-link.true) refl

pub returns-then-link-own : goal.returns-then-link-own
returns-then-link-own c =
    let a = c.args in
    rw (lt-leb _ _ c.if-n-link.false, eq-eqb a.link a.own c.if-link-own.true) refl

pub returns-then-sender-link : goal.returns-then-sender-link
returns-then-sender-link c = rw (lt-leb _ _ c.if-n-link.false, ne_eqb _ _ c.if-link-own.false, ne_eqb _ _ c.if-sender-link.true) refl

pub returns : goal.returns
returns c = rw (lt-leb _ _ c.if-n-link.false, ne_eqb _ _ c.if-link-own.false, eq-eqb _ _ c.if-sender-link.false) refl
