mod Named
