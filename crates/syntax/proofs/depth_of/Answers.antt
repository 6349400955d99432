-- Each answer is one case of `depth_of`: by the field's length, then by its one byte.
use mathlib.Core.Path.{sym}
use lib.ListN.{get_or}
use borrow.Author.Rules.{rules}
use borrow.Author.Tests.{le-leb, lt-leb}
use Rattle.meaning.specs.Text.{Bytes}
use Rattle.syntax.proofs.Fields.{depth_byte, depth_other}
use Rattle.syntax.proofs.depth_of.Goals as goal

pub returns-then-f-ne1 : goal.returns-then-f-ne1
returns-then-f-ne1 c = record { value = sym (depth_other c.args.f.now c.if-f-ne1.true); within = search rules }

pub returns-then-b-lt48 : goal.returns-then-b-lt48
returns-then-b-lt48 c =
    let f : Bytes = c.args.f.now in
    record { value = rw (depth_byte f c.if-f-ne1.false, lt-leb 48 (get_or f 0 0) c.if-b-lt48.true); within = search rules }

pub returns-then-b-gt55 : goal.returns-then-b-gt55
returns-then-b-gt55 c =
    let f : Bytes = c.args.f.now in
    record { value = rw (depth_byte f c.if-f-ne1.false, le-leb 48 (get_or f 0 0) c.if-b-lt48.false, lt-leb (get_or f 0 0) 55 c.if-b-gt55.true); within = search rules }

pub returns : goal.returns
returns c =
    let f : Bytes = c.args.f.now in
    record { value = rw (depth_byte f c.if-f-ne1.false, le-leb 48 (get_or f 0 0) c.if-b-lt48.false, le-leb (get_or f 0 0) 55 c.if-b-gt55.false); within = search rules }
