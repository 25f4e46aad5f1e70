use Rattle.drain_maker.proofs.products.route.Goals as goal

pub returns-clause-routes : goal.returns-clause-routes
returns-clause-routes t c = λ g void same surface voids codes. record {
  flood = c.args.surface;
  laying = c.in_ok-flats.flats;
  surface = surface;
  voids = voids;
  ways = c.in_ok-flats.ensures.ways g same surface codes;
  con_is = c.into_heights-con.ensures.heights;
  rnk_is = c.into_codes_and_ranks-ways.ensures.rnk;
  dir_is = c.into_codes_and_ranks-ways.ensures.way;
}
