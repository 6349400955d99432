-- `still_moved`: each bit of the two sides says what the children passed give, as long as they are apart. Assumes nothing.
use Prim.Native.Nat.{ℕ, ◌+◌, ◌<◌}
use mathlib.Core.Path.{◌≡◌, sym, ap, ap₂, subst, ◌∙◌}
use mathlib.Core.Bool.{Bool, true, not, ◌&&◌}
use native.Mathlib.Omega.{arith}
use lib.Dec.{ltb}
use lib.ListN.{get_or}
use lib.Bits.{bit_and}
use Rattle.meaning.specs.declared.Element.{Element}
use Rattle.meaning.specs.Deciding.{bit, is}
use Rattle.laws.proofs.Bits.{bit_and_lem, bit_zero}
use Rattle.table.specs.Rows.{word_at, word_number, algorithm_number, depth_of}
use Rattle.decisions.specs.Replies.{reply_at}
use Rattle.decisions.proofs.Children.{children_none, replies_over}
use Rattle.blocks.specs.declared.Block.{Block}
use Rattle.blocks.specs.declared.Replies.{Replies}
use Rattle.blocks.specs.Bits.{decision_bit, reply_bit, Answers}
use Rattle.blocks.proofs.Replying.{none_reply}
use Rattle.moves.specs.declared.Sides.{Sides}
use Rattle.moves.specs.Moved.{effect_reply, Child, Own, Sided}
use Rattle.moves.proofs.Rules.{missed}
use Rattle.moves.proofs.Turns.{behind_rule, So, so_first, so_struck, so_deeper, so_off, so_taken, so_ends}
use Rattle.moves.proofs.still_moved.Goals as goal
use Rattle.moves.proofs.still_moved.Goals.{then-live+else-d-depth+then-d-depth-2+then-matched-apart-ne0+else-apart-eq0, then-live+else-d-depth+else-d-depth-2, else-d-depth-2-via-then-d-depth-2+else-matched-apart-ne0, else-d-depth-2-via-else-d-depth-2, else-live}

-- a sibling that is taken on both sides, at one bit
taken : (b : Block) (up rule a : ℕ) (own reply : Replies) (sides next : Sides) (apart differ at v : ℕ) (hit : Element → Bool)
    → Answers b.table.now b.hits.now b.n b.block v hit
    → (child : Child b.table.now b.struck.now b.n up rule) → Own b.table.now b.hits.now b.n b.block up rule own
    → (algorithm : a ≡ algorithm_number (word_at (word_number b.table.now up)))
    → So hit b.table.now b.struck.now b.n up rule a child b.fits.flags algorithm (bit apart v) (reply_bit sides.with v) (reply_bit sides.without v) at
    → up < at → at < b.n → get_or b.struck.now at 0 ≡ 0 → depth_of b.table.now at ≡ depth_of b.table.now rule
    → reply_bit reply v ≡ reply_at hit b.table.now b.struck.now b.n at
    → Sided a (ltb at rule) (reply_bit sides.with v) (reply_bit sides.without v) (reply_bit reply v) (reply_bit own v) (reply_bit next.with v) (reply_bit next.without v)
    → bit differ v ≡ not (is (decision_bit next.with.given v) (decision_bit next.without.given v))
    → So hit b.table.now b.struck.now b.n up rule a child b.fits.flags algorithm (bit (bit_and apart differ) v) (reply_bit next.with v) (reply_bit next.without v) (at + 1)
taken b up rule a own reply sides next apart differ at v hit answers child is-own algorithm so low inside live level replies sided differs =
    let t = b.table.now in
    let reach = is-own.reach v ∙ ap₂ (λ x y. x && y) (answers rule child.inside) (answers up (omega (arith, child.under.earlier, child.inside))) in
    let gives : bit apart v ≡ true → reply_bit own v ≡ effect_reply (word_at (word_number t rule)) true =
    λ e. is-own.replies v ∙ ap (effect_reply (word_at (word_number t rule))) (reach ∙ ap₂ (λ x y. x && y) (so.0 e).on (so.0 e).applies) in
    rw (bit_and_lem apart differ v, differs) (so_taken hit t b.struck.now b.n up rule a child b.fits.flags algorithm _ _ _ at so low inside live level _ _ _ _ replies gives sided)

pub loop-at-init : goal.loop-at-init
loop-at-init c child algorithm v hit answers =
    let b = c.args.b.now in
    let up = c.args.up in
    let rule = c.args.rule in
    let own = c.requires.1 in
    let reach = own.reach v ∙ ap₂ (λ x y. x && y) (answers rule child.inside) (answers up (omega (arith, child.under.earlier, child.inside))) in
    rw (own.replies v, none_reply v) (so_first hit b.table.now b.struck.now b.n up rule _ child b.fits.flags algorithm (bit c.args.own.matched v) reach)

pub returns-then-d-depth : goal.returns-then-d-depth
returns-then-d-depth c v hit answers =
    let b = c.args.b.now in
    let t = b.table.now in
    let turn = c.loop-at in
    let child = c.requires.0 in
    let depth = c.depth_at-d.ensures.0 in
    let inside : turn.at < b.n = omega arith in
    let ended = replies_over hit t b.struck.now b.n (depth_of t c.args.rule) turn.at inside _ c.if-live.true depth (rw c.depth_at-depth.ensures.0 at c.if-d-depth.true) in
    let behind = behind_rule child turn.at (omega (arith, turn.auto.at)) (rw (depth, c.depth_at-depth.ensures.0) at c.if-d-depth.true) in
    let algorithm = ap algorithm_number c.word_at-algorithm.ensures in
    so_ends hit t b.struck.now b.n c.args.up c.args.rule _ child b.fits.flags algorithm _ _ _ turn.at (turn.invariant child algorithm v hit answers) ended behind

pub returns-then-apart-eq0 : goal.returns-then-apart-eq0
returns-then-apart-eq0 c v hit answers =
    let b = c.args.b.now in
    let turn = c.loop-at in
    let child = c.requires.0 in
    let algorithm = ap algorithm_number c.word_at-algorithm.ensures in
    let level = sym c.depth_at-d.ensures.0 ∙ c.if-d-depth-2.true ∙ c.depth_at-depth.ensures.0 in
    let so = taken b c.args.up c.args.rule (algorithm_number c.word_at-algorithm.result) c.args.own c.reply-child.result turn.sides c.next_sides-sides.result turn.apart c.differing-apart.result turn.at v hit answers child c.requires.1 algorithm
    (turn.invariant child algorithm v hit answers) (omega (arith, turn.auto.at)) (omega arith) c.if-live.true level (c.reply-child.ensures v hit answers) (c.next_sides-sides.ensures v) (c.differing-apart.ensures v) in
    bit_zero v ∙ sym (so.1 (ap (λ w. bit w v) c.if-apart-eq0.true ∙ bit_zero v))

pub loop-at-preserved : goal.loop-at-preserved
loop-at-preserved c child algorithm v hit answers =
    let b = c.args.b.now in
    let t = b.table.now in
    let struck = b.struck.now in
    let up = c.args.up in
    let rule = c.args.rule in
    let turn = c.loop-at in
    let so = turn.invariant child algorithm v hit answers in
    let low : up < turn.at = omega (arith, turn.auto.at) in
    let inside : turn.at < b.n = omega arith in
    let after : Sides → ℕ → Type 0 = λ sides apart. So hit t struck b.n up rule (algorithm_number c.word_at-algorithm.result) child b.fits.flags algorithm (bit apart v) (reply_bit sides.with v) (reply_bit sides.without v) (turn.at + 1) in
    let by : (sides : Sides) (apart : ℕ) → c.if-live.sides ≡ sides → c.if-live.apart ≡ apart → after sides apart → after c.if-live.sides c.if-live.apart =
    λ sides apart e f h. subst (after c.if-live.sides) (sym f) (subst (λ s. after s apart) (sym e) h) in
    elim c.if-live.branch [
      | then-live+else-d-depth+then-d-depth-2+then-matched-apart-ne0+else-apart-eq0 w ↦
          let level = sym w.depth_at-d.ensures.0 ∙ w.if-d-depth-2.true ∙ c.depth_at-depth.ensures.0 in
          by _ _ w.sides-is w.apart-is
          (taken b up rule (algorithm_number c.word_at-algorithm.result) c.args.own w.reply-child.result turn.sides w.next_sides-sides.result turn.apart w.differing-apart.result turn.at v hit answers child c.requires.1 algorithm so low inside w.if-live.true level
          (w.reply-child.ensures v hit answers) (w.next_sides-sides.ensures v) (w.differing-apart.ensures v))
      | then-live+else-d-depth+else-d-depth-2 w ↦
          by _ _ w.sides-is w.apart-is
          (elim w.else-d-depth-2.branch [
            | else-d-depth-2-via-then-d-depth-2+else-matched-apart-ne0 m ↦
                let level = sym w.depth_at-d.ensures.0 ∙ m.if-d-depth-2.true ∙ c.depth_at-depth.ensures.0 in
                so_off hit t struck b.n up rule _ child b.fits.flags algorithm _ _ _ turn.at so low inside w.if-live.true level
                (λ e. sym (answers turn.at inside) ∙ ap (λ x. bit x v) (sym m.matched.ensures) ∙ missed m.matched.result turn.apart v m.if-matched-apart-ne0.false e)
            | else-d-depth-2-via-else-d-depth-2 m ↦
                so_deeper hit t struck b.n up rule _ child b.fits.flags algorithm _ _ _ turn.at so low inside w.if-live.true
                (omega (arith, c.depth_at-depth.ensures.0, w.depth_at-d.ensures.0, w.if-d-depth.false, m.if-d-depth-2.false))
          ])
      | else-live w ↦ by _ _ w.sides-is w.apart-is (so_struck hit t struck b.n up rule _ child b.fits.flags algorithm _ _ _ turn.at so low inside w.if-live.false)
    ]

pub returns : goal.returns
returns c v hit answers =
    let b = c.args.b.now in
    let turn = c.loop-at in
    let child = c.requires.0 in
    let algorithm = ap algorithm_number c.word_at-algorithm.ensures in
    so_ends hit b.table.now b.struck.now b.n c.args.up c.args.rule _ child b.fits.flags algorithm _ _ _ turn.at (turn.invariant child algorithm v hit answers)
    (children_none hit b.table.now b.struck.now b.n (depth_of b.table.now c.args.rule) turn.at (omega arith)) (omega (arith, child.inside))
