-- All claims together, that whoever meets them gives what is defined, and the tools that they shut out.
use Rattle.std.specs.Prelude.{◌≡◌, ◌≢◌, ◌↔◌, ℕ, ◌≤◌, ◌<◌, not, length}
use mathlib.Core.List.{List, [], map, Memᴰ}
use Rattle.meaning.specs.Text.{Bytes, keep, join, newline, tab}
use Rattle.meaning.specs.Model.{Word, Decision, Attribute, Element, Policy, space, Result, refused, given}
use Rattle.meaning.specs.Reading.{read}
use Rattle.meaning.specs.Deciding.{Reply, combined, Outcome, decision_on, decide_file}
use Rattle.meaning.specs.Trimming.{lines, rule_line, strike, Trimmed, trimmed, file_lines}
use Rattle.meaning.specs.Segments.{segments, segment_size, Conflict, conflicts}
use Rattle.meaning.specs.Report.{report}
use Rattle.meaning.specs.ValuePairs.{pairs_named}
use Rattle.meaning.specs.RuleByRule.{next_name, strike_named}
use Rattle.meaning.specs.HeldState.{step_on}
use Rattle.meaning.specs.Accepting.{judged}
use Rattle.meaning.specs.Joining.{joined}
use Rattle.meaning.specs.Writing.{write_file}
use Rattle.meaning.specs.Claims.Texts.{All, Texts}
use Rattle.meaning.specs.Claims.PolicyFile.{GoodAttribute, Spelled, WellFormed, Reads}
use Rattle.meaning.specs.Claims.Refusals.{Refuses}
use Rattle.meaning.specs.Claims.Writing.{Shaped, RoundTrips, Made}
use Rattle.meaning.specs.Claims.WriterRefusals.{RefusesToWrite}
use Rattle.meaning.specs.Claims.Sets.{SetsNumbered}
use Rattle.meaning.specs.Claims.Requests.{Numbered, Matched}
use Rattle.meaning.specs.Claims.Standard.{standard}
use Rattle.meaning.specs.Claims.Deciding.{Parented, Standardly, AskedInOrder, ObligationsGiven, Decides}
use Rattle.meaning.specs.Claims.Segments.{Segmented, Opens, Conflicting, ConflictsListed}
use Rattle.meaning.specs.Claims.Trimming.{Lines, Needless, ReportOf, Meets}
use Rattle.meaning.specs.Claims.ValuePairs.{NamedAttribute, PairsNamed}
use Rattle.meaning.specs.Claims.RuleByRule.{ShowsNext, NeedlessRule}
use Rattle.meaning.specs.Claims.HeldState.{StepsOnce}
use Rattle.meaning.specs.Claims.Accepting.{Sound, Unsound}
use Rattle.meaning.specs.Claims.Joining.{Joins, Unjoined}
use Rattle.meaning.specs.Claims.Operations.{Operations, Prints}

-- Whoever meets these claims gives just what is defined: every wrong tool is shut out
pub record Settled : Type 0 where
  pub segmented : (p : Policy) (firsts : List ℕ) (size : ℕ → ℕ) → Segmented firsts size p → (firsts ≡ segments p) × ((s : ℕ) → Memᴰ s firsts → size s ≡ segment_size p s)
  pub listed : (p : Policy) (cs : List Conflict) → ConflictsListed cs p → cs ≡ conflicts p
  pub trimmed_so : (trim : Bytes → Trimmed) (tell : Bytes → Policy → Bytes) → Meets trim tell → (f : Bytes) (p : Policy) → read f ≡ given p → trim f ≡ trimmed f
  pub reported_so : (trim : Bytes → Trimmed) (tell : Bytes → Policy → Bytes) → Meets trim tell → (f : Bytes) (p : Policy) → read f ≡ given p → tell f p ≡ report f p

-- The tools that the paper shuts out by name do not meet their claims, whatever else they give: one that hands the file back
-- untrimmed, strikes one rule and stops, or strikes all rules; one decision for all requests, no conflicts, an invented count;
-- all files refused
abbrev pub ruleless : Bytes → Bytes
ruleless f = join newline (keep (λ l. not (rule_line l)) (lines f))

pub record ShutOut : Type 0 where
  pub untrimmed : (trim : Bytes → Trimmed) (tell : Bytes → Policy → Bytes) → Meets trim tell → (f : Bytes) (p : Policy) (k : ℕ) → read f ≡ given p → Needless f k → (trim f).text ≢ f
  pub one_struck : (trim : Bytes → Trimmed) (tell : Bytes → Policy → Bytes) → Meets trim tell → (f : Bytes) (p : Policy) (k j : ℕ) → read f ≡ given p → Needless (strike k f) j → (trim f).text ≢ strike k f
  pub all_struck : (trim : Bytes → Trimmed) (tell : Bytes → Policy → Bytes) → Meets trim tell → (f : Bytes) (p : Policy) (room : ℕ) (r : Bytes) → read f ≡ given p → decide_file room (ruleless f) r ≢ decide_file room f r → (trim f).text ≢ ruleless f
  pub one_decision : (tool : ℕ → Bytes → Bytes → Result Outcome) (f : Bytes) (p : Policy) (n m : ℕ) → n < space p.attributes → m < space p.attributes → decision_on p n ≢ decision_on p m
      → Decides tool f p → (d : Decision) → ((room : ℕ) (r : Bytes) (o : Outcome) → tool room f r ≡ given o → o.decision ≡ d) → ⊥
  pub no_conflicts : (p : Policy) (c : Conflict) → Conflicting p c → ConflictsListed [] p → ⊥
  pub invented_count : (p : Policy) (firsts : List ℕ) (size : ℕ → ℕ) (s : ℕ) → Memᴰ s firsts → size s ≢ segment_size p s → Segmented firsts size p → ⊥
  pub all_refused : (tool : Bytes → Result Policy) (f : Bytes) (p : Policy) → WellFormed f p → Reads tool → (n m : ℕ) → tool f ≢ refused n m

-- All of it, of every file, or of every accepted one
pub record Promises : Type 0 where
  pub texts : Texts
  pub spelled : Spelled
  pub acceptance : Reads read
  pub refusals : (f : Bytes) (n m : ℕ) → read f ≡ refused n m ↔ Refuses f n m
  pub round_trips : RoundTrips
  pub writing : (room : ℕ) (header : Bytes) (es : List Element) (t : Bytes) → All Shaped es → write_file room header es ≡ given t ↔ Made room header es t
  pub writer_refusals : (room : ℕ) (header : Bytes) (es : List Element) (n m : ℕ) → All Shaped es → write_file room header es ≡ refused n m ↔ RefusesToWrite room header es n m
  pub sets : SetsNumbered
  pub numbers : (attrs : List Attribute) → 1 ≤ length attrs → All GoodAttribute attrs → Numbered attrs
  pub targets : (f : Bytes) (p : Policy) → read f ≡ given p → Matched p
  pub appendix_C : (w : Word) (rs : List Reply) → combined w rs ≡ standard w rs
  pub asking : AskedInOrder
  pub parents : (f : Bytes) (p : Policy) → read f ≡ given p → Parented p
  pub decisions : (f : Bytes) (p : Policy) → read f ≡ given p → Standardly p
  pub obligations : (f : Bytes) (p : Policy) → read f ≡ given p → (n : ℕ) → ObligationsGiven p n
  pub deciding : (f : Bytes) (p : Policy) → read f ≡ given p → Decides decide_file f p
  pub segmenting : (f : Bytes) (p : Policy) → read f ≡ given p → Segmented (segments p) (segment_size p) p
  pub conflicting : (f : Bytes) (p : Policy) → read f ≡ given p → ConflictsListed (conflicts p) p
  -- so the request of a conflict stands on a `G` line too
  pub conflict_opens : (f : Bytes) (p : Policy) → read f ≡ given p → (c : Conflict) → Conflicting p c → Opens p c.request
  pub file_lines_are : (f : Bytes) (p : Policy) (w : WellFormed f p) → Lines f w.rows
  pub trimming : Meets trimmed report
  -- the report has no free field
  pub reporting : (f : Bytes) (p : Policy) → read f ≡ given p → (r : Bytes) → ReportOf f p r ↔ (r ≡ report f p)
  -- value pairs: which text a name gets is settled; 13 with 0 comes exactly if no `M` attribute has that name
  pub pairing : (f : Bytes) (p : Policy) → read f ≡ given p → (name t : Bytes) → pairs_named p name ≡ given t ↔ PairsNamed p name t
  pub no_such_attribute : (f : Bytes) (p : Policy) → read f ≡ given p → (name : Bytes) (n m : ℕ) → pairs_named p name ≡ refused n m ↔ ((NamedAttribute p.attributes name → ⊥) × (n ≡ 13) × (m ≡ 0))
  -- rule by rule: what is shown; a name strikes the line of the needless rule that has it, and nothing else; 15 with 0 comes exactly
  -- if no needless rule has it
  pub showing : (f : Bytes) (p : Policy) → read f ≡ given p → ShowsNext f (next_name f)
  pub striking : (f : Bytes) (p : Policy) → read f ≡ given p → (name t : Bytes) → strike_named f name ≡ given t ↔ ((r : NeedlessRule f name) × (t ≡ strike r.place f))
  pub no_needless_rule : (f : Bytes) (p : Policy) → read f ≡ given p → (name : Bytes) (n m : ℕ) → strike_named f name ≡ refused n m ↔ ((NeedlessRule f name → ⊥) × (n ≡ 15) × (m ≡ 0))
  -- a held state: what a step leaves
  pub steps_once : (f : Bytes) (p : Policy) → read f ≡ given p → StepsOnce f (step_on f)
  -- a proposal beside its original, line by line: it is accepted exactly if it is sound, and refused exactly as the request says; the trimmed text is
  -- accepted
  pub proposal_lines : (f : Bytes) (p : Policy) (w : WellFormed f p) → file_lines f ≡ map (join tab) w.rows
  pub accepting : (f : Bytes) (p : Policy) (g : Bytes) (q : Policy) → read f ≡ given p → read g ≡ given q → (t : Bytes) → judged f p g q ≡ given t ↔ (Sound f p g q × (t ≡ g))
  pub not_accepting : (f : Bytes) (p : Policy) (g : Bytes) (q : Policy) → read f ≡ given p → read g ≡ given q → (n m : ℕ) → judged f p g q ≡ refused n m ↔ Unsound f p g q n m
  pub own_trimmed : (f : Bytes) (p : Policy) → read f ≡ given p → (q : Policy) × (read (trimmed f).text ≡ given q) × Sound f p (trimmed f).text q
  -- two files joined: each answer is what the request says
  pub joining : (f : Bytes) (p : Policy) (g : Bytes) (q : Policy) → read f ≡ given p → read g ≡ given q → (w t : Bytes) → joined w f p.attributes g q.attributes ≡ given t → Joins w f p g q t
  pub not_joining : (f : Bytes) (p : Policy) (g : Bytes) (q : Policy) → read f ≡ given p → read g ≡ given q → (w : Bytes) (n m : ℕ) → joined w f p.attributes g q.attributes ≡ refused n m → Unjoined w f p g q n m
  pub settled : Settled
  pub shut_out : ShutOut
  pub operations : Operations
  pub printing : Prints
