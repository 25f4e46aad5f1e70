use Rattle.drain_kernel.proofs.strides.all_pass.Goals as goal

pub returns : goal.returns
returns g c = λ counted k low high.
    let inland = c.all_inland.ensures c.if-not-all_inland.false k low high in
    let ways = c.courses_pass.ensures.ways c.if-not-courses_pass.false k low high in
    let counts = c.counts_pass.ensures counted k low high in
    record {
      inland = inland;
      surface = ways.surface;
      direction = ways.direction;
      label = counts.label;
      accumulation = counts.accumulation;
      has_way = c.ways_are_there.ensures c.if-not-ways_are_there.false k low high inland ways;
      has_counts = counts.has_counts;
      ranks = c.courses_pass.ensures.ranks c.if-not-courses_pass.false k low high;
    }
