use Rattle.std.proofs.Common.{inl}
use Rattle.maker9.proofs.paging.make_page.Goals as goal

pub returns : goal.returns
returns g c =
    let checked = rw (c.view_of-of.ensures.0, c.view_of-of.ensures.1, c.page_of-page_of.ensures, c.as_slice.ensures.value) at c.in_ok-ending.ensures in
    inl (c.in-Ok.text.items, c.in-Ok.ensures, (c.in_ok-ending.ending, checked, c.outcome_made.ensures))
