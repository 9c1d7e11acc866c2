-- The reply on a reference that is not crowded, from what the search found.
use Rattle.std.proofs.Common.{◌≡◌, ◌↔◌, inl, inr, [], ◌∷◌, ap, subst, Option, Some, None, Result, Ok, Err, IfOk, OnOk, IsTrue}
use Rattle.std.specs.Prelude.{IsSomeAnd}
use Rattle.graph_nodes.specs.Graph.{Graph}
use Rattle.partial_path.specs.declared.bounds.Bounds.{Bounds}
use Rattle.partial_path.specs.declared.config.Config.{Config}
use Rattle.partial_path.specs.Counted.{IsCrowded, HasLimit}
use Rattle.whole_search.specs.declared.found.Found.{Found}
use Rattle.whole_search.specs.declared.found.SearchFault.{SearchFault}
use Rattle.whole_search.specs.declared.found.SearchFault.TheVariants as search
use Rattle.whole_search.specs.Answers.{AreDefinitions}
use Rattle.version_tree.specs.declared.row.Answer.{Answer}
use Rattle.nav_proto.specs.declared.reply.Reply.{Reply}
use Rattle.nav_proto.specs.declared.reply.Reply.TheVariants.{Rows, Plain}
use Rattle.nav_proto.specs.declared.reply.PlainError.TheVariants.{Crowded}
use Rattle.nav_session.specs.declared.halt.Halt.{Halt}
use Rattle.nav_serve.specs.Once.{usual, answer_of, AnswersFrom}

-- bounds of these numbers are the usual ones
pub is_usual : (bounds : Bounds) → bounds.edges ≡ 128 → bounds.depth ≡ 48 → bounds ≡ usual
is_usual bounds edges depth = λ i. record { edges = edges i; depth = depth i }

-- what holds of the search with the usual bounds over one graph
pub record Finds (g : Graph) (o : Option Config) (bounds : Bounds) (found : Found) : Type 0 where
  pub rows : IsSomeAnd o (λ c. AreDefinitions bounds (g ∷ []) c found.rows)
  pub limit : IsSomeAnd o (λ c. IsTrue found.limit ↔ HasLimit bounds (g ∷ []) c)
  pub not_crowded : IsSomeAnd o (λ c. ¬ IsCrowded bounds (g ∷ []) c)

-- the answer with what was found is the reply
pub answers_found : (g : Graph) (o : Option Config) (bounds : Bounds) (found : Found) (answer : Answer)
    → bounds ≡ usual → Finds g o bounds found → answer ≡ answer_of g found.limit found.rows
    → AnswersFrom g o (Rows answer)
answers_found g o bounds found answer at finds =
    by o (subst (λ (b : Bounds). Finds g o b found) at finds)
  where
    by : (o : Option Config) → Finds g o usual found → answer ≡ answer_of g found.limit found.rows → AnswersFrom g o (Rows answer)
    by None f e = absurd f.rows
    by (Some c) f e = inr (f.not_crowded, (found.rows, found.limit, f.rows, f.limit, ap Rows e))

-- where the search is refused and memory wasn't, the reply is that the reference is crowded
pub answers_refused : (g : Graph) (o : Option Config) (bounds : Bounds) (fault : SearchFault) (r : Result Reply Halt)
    → bounds ≡ usual → IfOk r (λ (reply : Reply). reply ≡ Plain Crowded) → OnOk r (fault ≡ search.Crowded)
    → (fault ≡ search.Crowded → IsSomeAnd o (λ c. IsCrowded bounds (g ∷ []) c)) → IfOk r (AnswersFrom g o)
answers_refused g o bounds fault (Err reason) at told was h = tt
answers_refused g o bounds fault (Ok reply) at told was h =
    by o (subst (λ (b : Bounds). IsSomeAnd o (λ c. IsCrowded b (g ∷ []) c)) at (h was))
  where
    by : (o : Option Config) → IsSomeAnd o (λ c. IsCrowded usual (g ∷ []) c) → AnswersFrom g o reply
    by None f = absurd f
    by (Some c) f = inl (f, told)
