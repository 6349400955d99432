-- What a request line gives, as code returns it.
use Rattle.std.specs.Prelude.{ℕ, ◌≤◌, Result as Told, Ok, Err, ◌≡◌, length}
use Rattle.meaning.specs.Model.{Result, refused, given}
use Rattle.meaning.specs.Deciding.{Request}
use Rattle.refusals.specs.declared.Refusal.TheVariants.{BadRequest}
use Rattle.refusals.specs.declared.Refused.{Refused as Refusal}
use Rattle.requests.specs.declared.Request.{Request as Asked}
use Rattle.requests.specs.Values.{request_with}
use Rattle.layout.specs.declared.Attributes.{Attributes}
use Rattle.layout.specs.Places.{severals_at}

-- a refusal has number 10 and its place; a request has the attributes' letters, a number for each of them, and zeros behind
pub record Refused (r : Refusal) (n m : ℕ) : Type 0 where
  pub is : r ≡ record { why = BadRequest; second = m }
  pub number : n ≡ 10
  pub low : m ≤ 6

pub record Asks (a : Attributes) (r : Asked) (q : Request) : Type 0 where
  pub is : r ≡ request_with (severals_at a) q
  pub count : length q ≡ a.len

abbrev pub AskedAs : Attributes → Told Asked Refusal → Result Request → Type 0
AskedAs a (Err r) (refused n m) = Refused r n m
AskedAs a (Err r) (given q) = ⊥
AskedAs a (Ok r) (refused n m) = ⊥
AskedAs a (Ok r) (given q) = Asks a r q
