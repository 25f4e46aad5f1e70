use Rattle.std.proofs.Common.{◌≡◌, ℕ, List, [], ◌∷◌, ◌++◌, append_assoc, ap, ◌∙◌, rules}
use Rattle.drain_page.proofs.text_page.page_text.Goals as goal

line_then : (line begun ended rest whole : List ℕ) → begun ≡ line → ended ≡ begun ++ 10 ∷ [] → whole ≡ ended ++ rest → whole ≡ line ++ 10 ∷ rest
line_then line begun ended rest whole is_begun is_ended is_whole =
    is_whole ∙ ap (λ l. l ++ rest) (is_ended ∙ ap (λ l. l ++ 10 ∷ []) is_begun) ∙ append_assoc line (10 ∷ []) rest

pub returns : goal.returns
returns g c = record {
  line_first = (
    c.in_ok-rest.rest.bytes.items,
    line_then _ c.extend_from_slice.new.self.items c.push.new.self.items c.in_ok-rest.rest.bytes.items c.extend_from_slice-2.new.self.items (search rules) (search rules) (search rules),
  );
}
